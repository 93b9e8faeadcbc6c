-- One edge of a control graph on a store: on with another store, into a fault, to the end of the run, or not at all.
use Rattle.std.specs.Prelude.{ℕ, List, [], ◌∷◌, nat_eq, Bool, true, false, if◌then◌else◌, Option, Some, None, Result}
use Rattle.std.specs.Prelude.{Ok, Err, slice_get}
use Rattle.fore_base.specs.declared.fault.Fault.{Fault}
use Rattle.fore_base.specs.declared.fault.Fault.TheVariants.{Leak, Assertion}
use Rattle.fore_base.specs.declared.shape.Shape.{Shape}
use Rattle.fore_base.specs.declared.store.Value.{Value}
use Rattle.fore_base.specs.declared.store.Value.TheVariants.{Null, Uninit, Dangling, Cell}
use Rattle.fore_base.specs.declared.store.Datum.{Datum}
use Rattle.fore_base.specs.declared.store.Datum.TheVariants.{Known}
use Rattle.fore_base.specs.declared.store.CellRec.{CellRec}
use Rattle.fore_base.specs.declared.store.Store.{Store}
use Rattle.fore_base.specs.Stores.{var_of, datum_of, set_var, set_datum, kill, followed, with_field, with_datum, grown}
use Rattle.fore_base.specs.Stores.{freed}
use Rattle.fore_base.specs.Heap.{leaks}
use Rattle.fore_base.specs.Shapes.{targets_of}
use Rattle.c_types.specs.Steps.{same_values, same_datums, agrees, blank}
use Rattle.c_cfg.specs.declared.graph.PtrArg.{PtrArg}
use Rattle.c_cfg.specs.declared.graph.PtrArg.TheVariants.{Var as PtrVar, Null as PtrNull}
use Rattle.c_cfg.specs.declared.graph.DataArg.{DataArg}
use Rattle.c_cfg.specs.declared.graph.DataArg.TheVariants.{Var as ArgVar, Known as ArgKnown}
use Rattle.c_cfg.specs.declared.graph.Const.{Const}
use Rattle.c_cfg.specs.declared.graph.Const.TheVariants.{Null as ConstNull, Known as ConstKnown}
use Rattle.c_cfg.specs.declared.graph.Instr.{Instr}
use Rattle.c_cfg.specs.declared.graph.Instr.TheVariants.{CopyPtr, LoadPtr, StorePtr, StoreConst, New, Free, Kill}
use Rattle.c_cfg.specs.declared.graph.Instr.TheVariants.{CopyData, LoadData, StoreData, TestPtr, TestData, Choose, Stop}
use Rattle.c_cfg.specs.declared.graph.Edge.{Edge}

-- How an edge goes.
pub data Pass : Type 0 where
  Passed : Store → Pass
  Faulted : Fault → Pass
  -- the run ends without a leak test (`exit` and `abort`, 7.22.4)
  Halted : Pass
  -- the store does not go along this edge
  NotPassed : Pass

-- Operands

abbrev pub arg_of : Store → PtrArg → Value
arg_of s (PtrVar x) = var_of s x
arg_of s PtrNull = Null

abbrev pub data_arg_of : Store → DataArg → Datum
data_arg_of s (ArgVar x) = datum_of s x
data_arg_of s (ArgKnown k) = Known k

-- Fields. None where there is no such cell, or where the cell has no such field.

abbrev pub field_of : List CellRec → ℕ → ℕ → Option Value
field_of [] n f = None
field_of (c ∷ cs) n f = if nat_eq c.number n then slice_get c.fields f else field_of cs n f

abbrev pub datum_field_of : List CellRec → ℕ → ℕ → Option Datum
datum_field_of [] n f = None
datum_field_of (c ∷ cs) n f = if nat_eq c.number n then slice_get c.datums f else datum_field_of cs n f

-- the struct of the cell n
abbrev pub struct_of : List CellRec → ℕ → Option ℕ
struct_of [] n = None
struct_of (c ∷ cs) n = if nat_eq c.number n then Some c.shape else struct_of cs n

-- the struct to which a pointer field of a struct points
abbrev pub target_of : List Shape → Option ℕ → ℕ → Option ℕ
target_of shapes None f = None
target_of shapes (Some shape) f = slice_get (targets_of shapes shape) f

-- both are there, and are one struct
abbrev pub same_struct : Option ℕ → Option ℕ → Bool
same_struct None t = false
same_struct (Some s) None = false
same_struct (Some s) (Some t) = nat_eq s t

-- a value may stand in the pointer field f of the cell n: a cell only if it is of the struct to which the field points
abbrev pub may_stand : List Shape → List CellRec → ℕ → ℕ → Value → Bool
may_stand shapes cs n f (Cell m) = same_struct (struct_of cs m) (target_of shapes (struct_of cs n) f)
may_stand shapes cs n f Null = true
may_stand shapes cs n f Uninit = true
may_stand shapes cs n f Dangling = true

-- Parts of edges

-- on with what was got, or into the fault
abbrev pub onto : {A : Type 0} → Result A Fault → (A → Pass) → Pass
onto (Ok a) next = next a
onto (Err k) next = Faulted k

-- on with a field, if it is there
abbrev pub if_there : {A : Type 0} → Option A → (A → Pass) → Pass
if_there (Some a) next = next a
if_there None next = NotPassed

-- the value goes into the pointer field f of the cell n (6.5.16.1)
abbrev pub stored : List Shape → Store → ℕ → ℕ → Value → Pass
stored shapes s n f v =
    if_there (field_of s.cells n f)
    (λ old. if may_stand shapes s.cells n f v then Passed (record s { cells = with_field s.cells n f v })
    else NotPassed)

-- the datum goes into the data field f of the cell n
abbrev pub stored_datum : Store → ℕ → ℕ → Datum → Pass
stored_datum s n f d = if_there (datum_field_of s.cells n f)
    (λ old. Passed (record s { cells = with_datum s.cells n f d }))

abbrev pub stored_const : List Shape → Store → ℕ → ℕ → Const → Pass
stored_const shapes s n f ConstNull = stored shapes s n f Null
stored_const shapes s n f (ConstKnown k) = stored_datum s n f (Known k)

-- the edge for `equal` passes where both are the same, the other one where they are not
abbrev pub if_agreed : Bool → Bool → Store → Pass
if_agreed equal same s = if agrees equal same then Passed s else NotPassed

abbrev pub chosen_to : Store → Option ℕ → ℕ → Store
chosen_to s None x = s
chosen_to s (Some to) x = set_datum s to (Known x)

-- an edge without its leak test; x is its choice, where it has one
abbrev pub raw_step : List Shape → Instr → ℕ → Store → Pass
raw_step shapes (CopyPtr to from) x s = Passed (set_var s to (arg_of s from))
raw_step shapes (LoadPtr to b f) x s =
    onto (followed (var_of s b)) (λ n. if_there (field_of s.cells n f) (λ v. Passed (set_var s to v)))
raw_step shapes (StorePtr b f from) x s = onto (followed (var_of s b)) (λ n. stored shapes s n f (var_of s from))
raw_step shapes (StoreConst b f value) x s = onto (followed (var_of s b)) (λ n. stored_const shapes s n f value)
raw_step shapes (New to shape) x s = Passed (set_var (grown s (blank shapes s.next shape)) to (Cell s.next))
raw_step shapes (Free from) x s = onto (freed s (var_of s from)) Passed
raw_step shapes (Kill ptrs datums) x s = Passed (kill ptrs datums s)
raw_step shapes (CopyData to from) x s = Passed (set_datum s to (data_arg_of s from))
raw_step shapes (LoadData to b f) x s =
    onto (followed (var_of s b)) (λ n. if_there (datum_field_of s.cells n f) (λ d. Passed (set_datum s to d)))
raw_step shapes (StoreData b f from) x s = onto (followed (var_of s b)) (λ n. stored_datum s n f (datum_of s from))
raw_step shapes (TestPtr left right equal) x s =
    onto (same_values (arg_of s left) (arg_of s right)) (λ same. if_agreed equal same s)
raw_step shapes (TestData left right equal) x s =
    onto (same_datums (data_arg_of s left) (data_arg_of s right)) (λ same. if_agreed equal same s)
raw_step shapes (Choose to) x s = Passed (chosen_to s to x)
raw_step shapes (Stop true) x s = Faulted Assertion
raw_step shapes (Stop false) x s = Halted

-- the leak test is the last part of each edge that goes on
abbrev pub leak_tested : Pass → Pass
leak_tested (Passed s) = if leaks s then Faulted Leak else Passed s
leak_tested (Faulted k) = Faulted k
leak_tested Halted = Halted
leak_tested NotPassed = NotPassed

abbrev pub choice_of : Option ℕ → ℕ
choice_of None = 0
choice_of (Some x) = x

-- one edge
abbrev pub gstep : List Shape → Edge → Store → Pass
gstep shapes e s = leak_tested (raw_step shapes e.instr (choice_of e.choice) s)
