-- Tables that say something of some of the states.
use Rattle.std.specs.Prelude.{◌≡◌, ℕ, Bool, true, false, ◌&&◌, List, [], ◌∷◌, Option, Some, None, slice_index_or}
use Rattle.ta_core.specs.declared.auto.Rule.{Rule}

-- what the table says of the state
abbrev pub entry : {X : Type 0} → List (Option X) → ℕ → Option X
entry table q = slice_index_or table q None

-- the table says something
abbrev pub is_there : {X : Type 0} → Option X → Bool
is_there None = false
is_there (Some x) = true

abbrev pub is_known : {X : Type 0} → List (Option X) → ℕ → Bool
is_known table q = is_there (entry table q)

-- it says something of each of the states
abbrev pub all_known : {X : Type 0} → List (Option X) → List ℕ → Bool
all_known table [] = true
all_known table (q ∷ qs) = is_known table q && all_known table qs

-- where the table speaks of the rule's children, it speaks of its state
abbrev pub IsKnown : {X : Type 0} → List (Option X) → Rule → Type 0
IsKnown table r = all_known table r.children ≡ true → is_known table r.state ≡ true
