-- Forests in which a field of a root is shown.
use Rattle.std.specs.Prelude.{◌≡◌, ℕ, List}
use Rattle.fore_base.specs.Lists.{Every}
use Rattle.fa_core.specs.declared.boxes.BoxDef.{BoxDef}
use Rattle.fa_core.specs.Member.{Regroups}
use Rattle.fa_sound.specs.Soundness.{SoundForest}
use Rattle.fa_split.specs.Divided.{HasVarsOf}
use Rattle.fa_split.specs.Giving.{RulesGive}
use Rattle.fa_edit.specs.Plain.{IsPlainAt}
use Rattle.fa_opening.specs.Opened.{IsBared, StaysPlain}

-- S has no box edge for field f of root r, and its box edges that lead back give their ends something
pub record IsBaredPart (r f : ℕ) (S : SoundForest) : Type 0 where
  pub bared : IsBared S.face.boxes r f S.forest
  pub gives : Every (RulesGive S.face.boxes) S.forest.autos

-- s regroups S, and one leaf stands at field f of root r
pub record IsShownOf (r f : ℕ) (S s : SoundForest) : Type 0 where
  pub face_kept : s.face ≡ S.face
  pub vars_kept : HasVarsOf S.forest s.forest
  pub plain_kept : StaysPlain S.forest s.forest
  pub plain : IsPlainAt S.face.shapes.structs s.forest r f
  pub regroups : (T : List BoxDef) → Regroups T S.forest s.forest
