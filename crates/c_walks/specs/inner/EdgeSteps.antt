-- One edge on the machine's store.
use Rattle.std.specs.Prelude.{ℕ, List, Bool, true, false, Option, Some, None}
use Rattle.fore_base.specs.declared.shape.Shape.{Shape}
use Rattle.fore_base.specs.declared.store.Value.{Value}
use Rattle.fore_base.specs.declared.store.Datum.{Datum}
use Rattle.fore_base.specs.declared.store.CellRec.{CellRec}
use Rattle.fore_base.specs.declared.store.Store.{Store}
use Rattle.fore_base.specs.Stores.{var_of, followed}
use Rattle.c_cfg.specs.declared.graph.Instr.{Instr}
use Rattle.c_cfg.specs.declared.graph.Instr.TheVariants.{CopyPtr, LoadPtr, StorePtr, StoreConst, New, Free, Kill}
use Rattle.c_cfg.specs.declared.graph.Instr.TheVariants.{CopyData, LoadData, StoreData, TestPtr, TestData, Choose, Stop}
use Rattle.c_cfg.specs.Edges.{Pass, Passed, Faulted, Halted, NotPassed, onto, field_of, may_stand, stored, stored_datum}
use Rattle.c_walks.specs.declared.edge_step.Went.{Went}
use Rattle.c_walks.specs.declared.edge_step.Went.TheVariants.{On, Faults, Halts, Stays}

-- how an edge went, with the store that it left
abbrev pub pass_seen : Went → Store → Pass
pass_seen On s = Passed s
pass_seen (Faults kind) s = Faulted kind
pass_seen Halts s = Halted
pass_seen Stays s = NotPassed

-- the field is there, and the value may stand in it
abbrev pub if_field : Option Value → Bool → Bool
if_field (Some old) b = b
if_field None b = false

abbrev pub has_place : List Shape → List CellRec → ℕ → ℕ → Value → Bool
has_place shapes cs n f v = if_field (field_of cs n f) (may_stand shapes cs n f v)

-- writes through a variable
abbrev pub stored_at : List Shape → Store → ℕ → ℕ → Value → Pass
stored_at shapes s to f v = onto (followed (var_of s to)) (λ n. stored shapes s n f v)

abbrev pub stored_datum_at : Store → ℕ → ℕ → Datum → Pass
stored_datum_at s to f d = onto (followed (var_of s to)) (λ n. stored_datum s n f d)

-- the edge makes a cell
abbrev pub is_new : Instr → Bool
is_new (CopyPtr to from) = false
is_new (LoadPtr to from field) = false
is_new (StorePtr to field from) = false
is_new (StoreConst to field value) = false
is_new (New to shape) = true
is_new (Free from) = false
is_new (Kill ptrs datums) = false
is_new (CopyData to from) = false
is_new (LoadData to from field) = false
is_new (StoreData to field from) = false
is_new (TestPtr left right equal) = false
is_new (TestData left right equal) = false
is_new (Choose to) = false
is_new (Stop error) = false
