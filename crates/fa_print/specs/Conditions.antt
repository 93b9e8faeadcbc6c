-- What is printed with a program.
use Rattle.std.specs.Prelude.{◌≡◌, ◌<◌, ◌⊎◌, ◌+◌, ℕ, List, length}
use Rattle.fore_base.specs.Heap.{IsProper}
use Rattle.fore_base.specs.Lists.{Every}
use Rattle.fore_base.specs.Shapes.{targets_of, datums_of}
use Rattle.fore_base.specs.declared.shape.Shape.{Shape}
use Rattle.fore_base.specs.declared.store.CellRec.{CellRec}
use Rattle.fore_base.specs.declared.store.Store.{Store}
use Rattle.c_types.specs.Program.{Program}
use Rattle.fa_core.specs.Boxes.{Boxes, IsBoxTable}
use Rattle.fa_core.specs.Filled.{IsSound}
use Rattle.fa_core.specs.Member.{Stands}
use Rattle.fa_sound.specs.Soundness.{SoundForest}

-- as many pointer and as many data variables as the program has, and k more of each kind
abbrev pub HasVariables : Program → ℕ → ℕ → ℕ → Type 0
HasVariables p k pointers data_count = (pointers ≡ length p.vars + k) × (data_count ≡ length p.data_vars + k)

-- the forest stands over the table, which has the structs of the program; it has the program's variables, and behind
-- them two temporaries of each kind
pub record IsForestOf (table : Boxes) (p : Program) (s : SoundForest) : Type 0 where
  pub face : s.face ≡ table.face
  pub structs : table.face.shapes ≡ p.shapes
  pub vars : HasVariables p 2 (length s.forest.vars) (length s.forest.data_vars)

-- the cell has a struct, a value for each of its pointer fields, and a datum for each of its data fields
pub record HasStruct (structs : List Shape) (c : CellRec) : Type 0 where
  pub shape : c.shape < length structs
  pub fields : length c.fields ≡ length (targets_of structs c.shape)
  pub datums : length c.datums ≡ datums_of structs c.shape

-- the store is proper; it has the program's variables, or these and behind them two temporaries of each kind; and its
-- cells are of the program's structs
pub record IsStoreOf (p : Program) (s : Store) : Type 0 where
  pub proper : IsProper s
  pub vars : HasVariables p 0 (length s.vars) (length s.data_vars)
      ⊎ HasVariables p 2 (length s.vars) (length s.data_vars)
  pub cells : Every (HasStruct p.shapes.structs) s.cells

-- a member of a sound forest that is printed with a program can be printed with it
abbrev pub IsPrintedStore : Boxes → Program → SoundForest → Store → Type 0
IsPrintedStore t p F s = IsBoxTable t → IsForestOf t p F → IsSound F.face F.forest
    → Stands t.face.shapes.structs t.defs F.forest s → IsStoreOf p s
