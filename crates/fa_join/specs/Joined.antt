-- Forests of which some are joined: their dressed forests together stay.
use Rattle.std.specs.Prelude.{◌↔◌, ◌⊎◌, List}
use Rattle.fore_base.specs.Lists.{IsIn}
use Rattle.fa_core.specs.Dressed.{Nodes}
use Rattle.fa_core.specs.Member.{OfForest}
use Rattle.fa_core.specs.declared.boxes.BoxDef.{BoxDef}
use Rattle.fa_core.specs.declared.forest.Forest.{Forest}
use Rattle.fa_split.specs.Divided.{HasVarsOf}

-- d is a dressed forest of a forest of the list that has the targets and data of F
abbrev pub OfOne : List BoxDef → List Forest → Forest → Nodes → Type 0
OfOne T Gs F d = (G : Forest) × IsIn G Gs × HasVarsOf F G × OfForest T G d

-- each dressed forest of one of Fs is one of a forest of Gs with the same targets and data, and the other way round
pub record IsJoined (T : List BoxDef) (Fs Gs : List Forest) : Type 0 where
  pub whole : (F : Forest) → IsIn F Fs → (d : Nodes) → OfForest T F d → OfOne T Gs F d
  pub only : (G : Forest) → IsIn G Gs → (d : Nodes) → OfForest T G d → OfOne T Fs G d

-- J has the targets and data of F and of G, and its dressed forests are those of both, whatever the box table is
pub record Joins (F G J : Forest) : Type 0 where
  pub first : HasVarsOf F J
  pub second : HasVarsOf G J
  pub dressed : (T : List BoxDef) (d : Nodes) → OfForest T J d ↔ (OfForest T F d ⊎ OfForest T G d)
