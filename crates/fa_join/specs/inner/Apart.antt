-- In which places two lists differ.
use Rattle.std.specs.Prelude.{◌≡◌, ◌≢◌, ◌<◌, ℕ, Bool, true, false, List, [], ◌∷◌, Some, slice_get}
use Rattle.ta_core.specs.Auto.{Automaton}
use Rattle.fa_join.specs.declared.comparing.Apart.{Apart}
use Rattle.fa_join.specs.declared.comparing.Apart.TheVariants.{Nowhere, At, More}

-- the items at place i are related
abbrev pub SameAt : {X Y : Type 0} → (X → Y → Type 0) → List X → List Y → ℕ → Type 0
SameAt {X} {Y} R xs ys i = (x : X) (y : Y) → slice_get xs i ≡ Some x → slice_get ys i ≡ Some y → R x y

-- there are items at place i, which are not related
abbrev pub DifferAt : {X Y : Type 0} → (X → Y → Type 0) → List X → List Y → ℕ → Type 0
DifferAt {X} {Y} R xs ys i = (x : X) × (y : Y) × (slice_get xs i ≡ Some x) × (slice_get ys i ≡ Some y) × (R x y → ⊥)

-- the places below n at which the items are not related: none, this one, or more
abbrev pub IsApart : {X Y : Type 0} → (X → Y → Type 0) → List X → List Y → ℕ → Apart → Type 0
IsApart R xs ys n Nowhere = (i : ℕ) → i < n → SameAt R xs ys i
IsApart R xs ys n (At k) = (k < n) × DifferAt R xs ys k × ((i : ℕ) → i < n → i ≢ k → SameAt R xs ys i)
IsApart R xs ys n More = (i : ℕ) × (k : ℕ) × (i ≢ k) × DifferAt R xs ys i × DifferAt R xs ys k

-- the places with one more: whether the items at place n are related
abbrev pub apart_with : Apart → ℕ → Bool → Apart
apart_with found n true = found
apart_with Nowhere n false = At n
apart_with (At k) n false = More
apart_with More n false = More

-- the automaton of the trees of state q
abbrev pub at_state : Automaton → ℕ → Automaton
at_state a q = record { states = a.states; roots = q ∷ []; rules = a.rules }
