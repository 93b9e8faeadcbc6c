-- Which states are joined, by what is kept of each.
use Rattle.std.specs.Prelude.{◌≡◌, ◌⊎◌, ◌<◌, ℕ, List, [], Option, Some, None, slice_get, slice_index_or}
use Rattle.fore_base.specs.Lists.{IsIn}
use Rattle.ta_core.specs.Auto.{Automaton}
use Rattle.fa_core.specs.declared.signature.RefMark.{RefMark}
use Rattle.fa_core.specs.declared.signature.Signature.{Signature}
use Rattle.ta_classes.specs.Classes.{IsOneClass}

-- the marks of state q in a table that has a list for each state
abbrev pub marks_at : List (List RefMark) → ℕ → List RefMark
marks_at table q = slice_index_or table q []

-- the table has the marks of each signature of the list, for the states below n
abbrev pub AreMarksEach : List Signature → ℕ → List (List RefMark) → Type 0
AreMarksEach list n table = (q : ℕ) (s : Signature) → q < n → slice_get list q ≡ Some s → marks_at table q ≡ s.refs

-- the component is there, and has n states
abbrev pub HasStates : Option Automaton → ℕ → Type 0
HasStates None n = ⊥
HasStates (Some a) n = a.states ≡ n

-- both are inner states, have one class and have the same marks
abbrev pub AreJoined : List ℕ → List ℕ → List (List RefMark) → ℕ → ℕ → Type 0
AreJoined roots classes table p q = (IsIn p roots → ⊥) × (IsIn q roots → ⊥) × IsOneClass classes p q
    × (marks_at table p ≡ marks_at table q)

-- both are one state, or they are joined
abbrev pub IsJoined : List ℕ → List ℕ → List (List RefMark) → ℕ → ℕ → Type 0
IsJoined roots classes table p q = (p ≡ q) ⊎ AreJoined roots classes table p q
