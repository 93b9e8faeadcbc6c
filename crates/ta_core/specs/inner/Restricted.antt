-- An automaton with the marked states alone, numbered anew in their order.
use Rattle.std.specs.Prelude.{ℕ, zero, suc, ◌+◌, Bool, true, false, ◌&&◌, List, [], ◌∷◌, if◌then◌else◌, slice_index_or}
use Rattle.ta_core.specs.Auto.{Automaton}
use Rattle.fore_base.specs.Marks.{all_marked, marked_count}
use Rattle.ta_core.specs.Renumbered.{renumbered}
use Rattle.ta_core.specs.declared.auto.Rule.{Rule}

-- how many states below q have marks
abbrev pub rank : List Bool → ℕ → ℕ
rank [] q = 0
rank (b ∷ marks) zero = 0
rank (true ∷ marks) (suc q) = rank marks q + 1
rank (false ∷ marks) (suc q) = rank marks q

-- for each place n more than the marks before it
abbrev pub ranks : ℕ → List Bool → List ℕ
ranks n [] = []
ranks n (true ∷ marks) = n ∷ ranks (n + 1) marks
ranks n (false ∷ marks) = n ∷ ranks n marks

-- the states of the rule have marks
abbrev pub keeps : List Bool → Rule → Bool
keeps marks r = slice_index_or marks r.state false && all_marked marks r.children

-- those of the states that have marks, by f
abbrev pub kept_states : List Bool → (ℕ → ℕ) → List ℕ → List ℕ
kept_states marks f [] = []
kept_states marks f (q ∷ qs) = if slice_index_or marks q false then f q ∷ kept_states marks f qs
    else kept_states marks f qs

-- those of the rules whose states have marks, by f
abbrev pub kept_rules : List Bool → (ℕ → ℕ) → List Rule → List Rule
kept_rules marks f [] = []
kept_rules marks f (r ∷ rs) = if keeps marks r then renumbered f r ∷ kept_rules marks f rs else kept_rules marks f rs

-- the automaton with the marked states alone
abbrev pub restricted : List Bool → (ℕ → ℕ) → Automaton → Automaton
restricted marks f a = record
    { states = marked_count marks; roots = kept_states marks f a.roots; rules = kept_rules marks f a.rules }
