-- What parts of an edge make of a forest.
use Rattle.std.specs.Prelude.{◌≡◌, ◌⊎◌, ℕ, List, Result, Ok, Err, Bool, true, false}
use Rattle.fore_base.specs.declared.fault.Fault.{Fault as FaultKind}
use Rattle.fore_base.specs.declared.store.Datum.{Datum}
use Rattle.fa_core.specs.Boxes.{IsTableOf}
use Rattle.fa_core.specs.declared.boxes.BoxDef.{BoxDef}
use Rattle.fa_core.specs.declared.forest.Target.{Target}
use Rattle.fa_sound.specs.Soundness.{SoundForest}
use Rattle.fa_edit.specs.Data.{AllLackDatum, IsDatumPut}
use Rattle.fa_edit.specs.Fits.{LeafFits, shape_at}
use Rattle.fa_edit.specs.Leaves.{IsPut}
use Rattle.fa_edit.specs.Plain.{StructLacks}
use Rattle.c_types.specs.Steps.{agrees}
use Rattle.c_cfg.specs.declared.graph.Instr.{Instr}
use Rattle.sym_transfer.specs.Edited.{Becomes}
use Rattle.sym_transfer.specs.declared.outcome.Edited.{Edited}
use Rattle.sym_transfer.specs.declared.outcome.Edited.TheVariants.{Fault, Stays, Goes}

module _ (F : SoundForest) where
  -- it is what all members become by the edge, for each table over the face and each choice
  abbrev pub IsMadeBy : Instr → Edited → Type 0
  IsMadeBy i made = (T : List BoxDef) → IsTableOf F.face T → (x : ℕ) → Becomes F.face T F.forest i x made

  -- the leaf t comes into field f of root r; it does not, where the root's struct has no such field or the leaf may not
  -- stand there
  abbrev pub IsLeafStored : ℕ → ℕ → Target → Edited → Type 0
  IsLeafStored r f t (Fault k) = ⊥
  IsLeafStored r f t Stays = StructLacks F.face.shapes.structs (shape_at F.forest r) f
      ⊎ (LeafFits F.face.shapes.structs F.forest r f t → ⊥)
  IsLeafStored r f t (Goes R) = LeafFits F.face.shapes.structs F.forest r f t
      × ((T : List BoxDef) → (old : Target) × IsPut T F.forest R.forest r f old t)

  -- the datum y comes into data field f of root r; it does not, where the root has no such field
  abbrev pub IsDatumStored : ℕ → ℕ → Datum → Edited → Type 0
  IsDatumStored r f y (Fault k) = ⊥
  IsDatumStored r f y Stays = (T : List BoxDef) → AllLackDatum T F.forest r f
  IsDatumStored r f y (Goes R) = (T : List BoxDef) → (old : Datum) × IsDatumPut T F.forest R.forest r f old y

  -- the edge for `equal` goes on with the same forest where the outcome is it
  abbrev pub IsTested : Result Bool FaultKind → Bool → Edited → Type 0
  IsTested same equal (Fault k) = same ≡ Err k
  IsTested same equal Stays = (b : Bool) × (same ≡ Ok b) × (agrees equal b ≡ false)
  IsTested same equal (Goes R) = (b : Bool) × (same ≡ Ok b) × (agrees equal b ≡ true) × (R ≡ F)
