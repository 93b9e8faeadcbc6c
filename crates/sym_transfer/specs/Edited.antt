-- What an edge makes of a forest in which what it needs is explicit, before the leak test.
use Rattle.std.specs.Prelude.{◌≡◌, ◌⊎◌, ℕ, List, length}
use Rattle.fore_base.specs.Lists.{Every}
use Rattle.fa_core.specs.Boxless.{HasNoBoxes}
use Rattle.fa_core.specs.Canonical.{IsCanonical}
use Rattle.fa_core.specs.declared.boxes.BoxDef.{BoxDef}
use Rattle.fa_core.specs.declared.faces.Face.{Face}
use Rattle.fa_core.specs.declared.forest.Forest.{Forest}
use Rattle.fa_sound.specs.Soundness.{SoundForest}
use Rattle.c_cfg.specs.Edges.{Faulted, Halted, NotPassed, choice_of}
use Rattle.c_cfg.specs.declared.graph.Edge.{Edge}
use Rattle.c_cfg.specs.declared.graph.Instr.{Instr}
use Rattle.sym_core.specs.Carried.{Carries, AllGo}
use Rattle.sym_transfer.specs.declared.outcome.Edited.{Edited}
use Rattle.sym_transfer.specs.declared.outcome.Edited.TheVariants.{Fault, Stays, Goes}

module _ (face : Face) (T : List BoxDef) (F : Forest) where
  -- by the edge, x being its choice, all members of F meet the fault; or none goes on; or the other forest has what
  -- they become
  abbrev pub Becomes : Instr → ℕ → Edited → Type 0
  Becomes i x (Fault k) = AllGo face T F i x (Faulted k)
  Becomes i x Stays = AllGo face T F i x NotPassed ⊎ AllGo face T F i x Halted
  Becomes i x (Goes R) = Carries face T F R.forest i x

  abbrev pub IsEdited : Edge → Edited → Type 0
  IsEdited e made = Becomes e.instr (choice_of e.choice) made

-- where the edge goes on, it goes to such a forest
abbrev pub IfGoes : (SoundForest → Type 0) → Edited → Type 0
IfGoes P (Fault k) = Unit {0}
IfGoes P Stays = Unit {0}
IfGoes P (Goes R) = P R

-- where the edge goes on, it goes to a canonical forest
abbrev pub GoesCanonical : Edited → Type 0
GoesCanonical made = IfGoes (λ G. IsCanonical G.face G.forest) made

-- a forest over the same structs and boxes, with as many variables, and without box edges where the first has none
pub record HasForm (F G : SoundForest) : Type 0 where
  pub face : G.face ≡ F.face
  pub plain : Every HasNoBoxes F.forest.autos → Every HasNoBoxes G.forest.autos
  pub vars : length G.forest.vars ≡ length F.forest.vars
  pub data_vars : length G.forest.data_vars ≡ length F.forest.data_vars
