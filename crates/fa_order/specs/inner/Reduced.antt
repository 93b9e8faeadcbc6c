-- A component and the reduced one in its place.
use Rattle.ta_core.specs.Auto.{Automaton}
use Rattle.ta_core.specs.Language.{HasSameLanguage, InLanguage}
use Rattle.ta_core.specs.Simulations.{AutoReduced}
use Rattle.ta_core.specs.Single.{HasOneTop, HasSameTop}
use Rattle.ta_core.specs.States.{KeepsStates}
use Rattle.ta_core.specs.declared.tree.Tree.{Tree}

-- b is reduced, with the trees of a: each of its states has those of one of a, and one top stays one
pub record IsReduction (a b : Automaton) : Type 0 where
  pub language : HasSameLanguage a b
  pub reduced : AutoReduced b
  pub states : KeepsStates a b
  pub top : (t : Tree) → InLanguage a t → HasSameTop a → HasOneTop b
