-- Reduction: states that simulate each other joined, and rules left out.
use Rattle.std.specs.Prelude.{◌≡◌, ◌↔◌, ℕ, ◌<◌, List, slice_index}
use Rattle.fore_base.specs.Lists.{IsIn, IsDistinct}
use Rattle.ta_core.specs.Auto.{Automaton, automaton}
use Rattle.ta_core.specs.Language.{InLanguage, HasSameLanguage}
use Rattle.ta_core.specs.Simulations.{IsSimulated, IsNeedless, AutoReduced}
use Rattle.ta_core.specs.Single.{HasOneTop, HasSameTop}
use Rattle.ta_core.specs.States.{KeepsStates}
use Rattle.ta_core.specs.declared.auto.Rule.{Rule}
use Rattle.ta_core.specs.declared.tree.Tree.{Tree}
use Rattle.ta_reduce.specs.inner.Leading.{KeepsLead}
use Rattle.ta_reduce.specs.inner.Thinned.{AreNeeded}
use Rattle.ta_sim.specs.Relations.{Table, AreRowsOf, Holds}

-- the relation is the greatest downward simulation on the states of a
pub record IsGreatest (a : Automaton) (rel : Table) : Type 0 where
  pub size : rel.size ≡ a.states
  pub only : (p q : ℕ) → Holds rel p q → IsSimulated a.rules p q
  pub each : (p q : ℕ) → p < a.states → q < a.states → IsSimulated a.rules p q → Holds rel p q

-- each number below its size is related to itself, and what is related is so through others
abbrev pub IsPreorder : Table → Type 0
IsPreorder rel = ((p : ℕ) → p < rel.size → Holds rel p p)
    × ((p q r : ℕ) → Holds rel p q → Holds rel q r → Holds rel p r)

-- p and q are related both ways
abbrev pub AreMutual : Table → ℕ → ℕ → Type 0
AreMutual rel p q = Holds rel p q × Holds rel q p

-- b has the language of a; each of its states has the trees of a state of a; and where a is led, b is
pub record Preserves (a b : Automaton) : Type 0 where
  pub language : HasSameLanguage a b
  pub states : KeepsStates a b
  pub lead : KeepsLead a b

-- no rule is needless beside another one
abbrev pub HasNoneNeedless : List Rule → Type 0
HasNoneNeedless rules = (i j : ℕ) → IsNeedless rules i j → i ≡ j

-- no two states simulate each other, and no rule is needless beside another one
pub record IsTight (a : Automaton) : Type 0 where
  pub apart : (p q : ℕ) → p < a.states → q < a.states → IsSimulated a.rules p q → IsSimulated a.rules q p → p ≡ q
  pub needed : HasNoneNeedless a.rules

-- the relation on the places of the firsts that rel is on these
abbrev pub IsAmong : Table → List ℕ → Table → Type 0
IsAmong rel firsts made =
    AreRowsOf made.size (λ v w. Holds rel (slice_index firsts v) (slice_index firsts w)) made.rows

-- b is a without rules that others match: of each state and symbol those are left that match all
abbrev pub IsLeft : Table → Automaton → Automaton → Type 0
IsLeft rel a b = (kept : List Rule) × (b ≡ automaton a.states a.roots kept) × AreNeeded rel a.rules kept

-- b is a with each root state listed once
abbrev pub HasRootsOnce : Automaton → Automaton → Type 0
HasRootsOnce a b = (qs : List ℕ) × (b ≡ automaton a.states qs a.rules) × IsDistinct qs
    × ((q : ℕ) → IsIn q qs ↔ IsIn q a.roots)

-- what reduction promises of a and its answer
pub record IsReduction (a b : Automaton) : Type 0 where
  pub language : HasSameLanguage a b
  pub reduced : AutoReduced b
  pub states : KeepsStates a b
  pub roots : IsDistinct b.roots
  pub top : (t : Tree) → InLanguage a t → HasSameTop a → HasOneTop b
