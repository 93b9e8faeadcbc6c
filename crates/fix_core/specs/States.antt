-- Abstract states as contracts see them.
use Rattle.std.specs.Prelude.{◌≡◌, List, Option, Some, None}
use Rattle.fa_core.specs.Filled.{IsSound}
use Rattle.fa_core.specs.declared.faces.Face.{Face}
use Rattle.fa_core.specs.declared.folds.FoldStep.{FoldStep}
use Rattle.fa_core.specs.declared.forest.Forest.{Forest}
use Rattle.fa_sound.specs.Soundness.{SoundForest}

-- a forest over a face and, where it was folded and abstracted, the forest before that, with the folds
pub record AbstractState : Type 0 where
  pub face : Face
  pub forest : Forest
  pub middle : Option Forest
  pub folds : List FoldStep

-- the forest, if there is one
abbrev pub forest_of : Option SoundForest → Option Forest
forest_of None = None
forest_of (Some s) = Some s.forest

-- it stands over this face, if it is there
abbrev pub IsOver : Face → Option SoundForest → Type 0
IsOver face None = Unit {0}
IsOver face (Some s) = s.face ≡ face

-- both forests of the state are sound
pub record IsSoundState (a : AbstractState) : Type 0 where
  pub forest : IsSound a.face a.forest
  pub middle : (M : Forest) → a.middle ≡ Some M → IsSound a.face M
