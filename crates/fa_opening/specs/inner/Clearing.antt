-- Forests in which box edges for one field after the other of a root's cell were opened.
use Rattle.std.specs.Prelude.{◌≡◌, ℕ, List}
use Rattle.fore_base.specs.Lists.{IsIn, Every}
use Rattle.ta_core.specs.Single.{HasOneTop}
use Rattle.fa_core.specs.declared.faces.BoxFace.{BoxFace}
use Rattle.fa_core.specs.declared.forest.Forest.{Forest}
use Rattle.fa_core.specs.Boxes.{Boxes}
use Rattle.fa_sound.specs.Components.{component_at}
use Rattle.fa_sound.specs.Soundness.{SoundForest, IsSigned}
use Rattle.fa_split.specs.Divided.{HasVarsOf}
use Rattle.fa_opening.specs.Opened.{IsAnyField, IsBared, IsThatField, OpensFrom, StaysPlain}

-- each of the numbers is in the list
abbrev pub AreIn : List ℕ → List ℕ → Type 0
AreIn fs gs = Every (λ f. IsIn f gs) fs

-- the list has each field that one of the boxes covers or gives
abbrev pub AreNamed : List BoxFace → List ℕ → Type 0
AreNamed bs fs = Every (λ x. AreIn x.gives_in fs × AreIn x.gives_out fs) bs

-- s is S with the box edges for field f of root r opened
pub record IsOpenedPart (t : Boxes) (r f : ℕ) (S s : SoundForest) : Type 0 where
  pub signed : IsSigned s
  pub face_kept : s.face ≡ S.face
  pub vars_kept : HasVarsOf S.forest s.forest
  pub plain_kept : StaysPlain S.forest s.forest
  pub bared : IsBared t.face.boxes r f s.forest
  pub from : OpensFrom t.face.boxes t.defs r (IsThatField f) S.forest s.forest

-- s is F with box edges for fields of root r opened, and has none for the fields of the list
pub record IsCleared (t : Boxes) (r : ℕ) (F : Forest) (fs : List ℕ) (s : SoundForest) : Type 0 where
  pub signed : IsSigned s
  pub face_kept : s.face ≡ t.face
  pub vars_kept : HasVarsOf F s.forest
  pub plain_kept : StaysPlain F s.forest
  pub top : HasOneTop (component_at s.forest.autos r)
  pub bared : Every (λ f. IsBared t.face.boxes r f s.forest) fs
  pub from : OpensFrom t.face.boxes t.defs r IsAnyField F s.forest
