-- How many edges acts and tests have, by the lengths of their paths.
use Rattle.std.specs.Prelude.{ℕ, zero, suc, ◌+◌, List, [], ◌∷◌, length, Option, Some, None, slice_get}
use Rattle.c_types.specs.declared.program.DataPath.{DataPath}
use Rattle.c_types.specs.declared.program.DataPath.TheVariants.{Var as DataVar, Field as DataField}
use Rattle.c_types.specs.declared.program.PtrRhs.{PtrRhs}
use Rattle.c_types.specs.declared.program.PtrRhs.TheVariants.{Path as RhsPath, Null as RhsNull, New as RhsNew}
use Rattle.c_types.specs.declared.program.DataRhs.{DataRhs}
use Rattle.c_types.specs.declared.program.DataRhs.TheVariants.{Path as DataRhsPath, Known as DataRhsKnown}
use Rattle.c_types.specs.declared.program.DataRhs.TheVariants.{Choice as DataRhsChoice}
use Rattle.c_types.specs.declared.program.Act.{Act}
use Rattle.c_types.specs.declared.program.Act.TheVariants.{SetPtr, SetData, Free, Error, Halt, Return, Break, Continue}
use Rattle.c_types.specs.declared.program.Act.TheVariants.{Leave as LeaveAct}
use Rattle.c_types.specs.declared.program.Arg.{Arg}
use Rattle.c_types.specs.declared.program.Func.{Func}
use Rattle.c_types.specs.declared.program.PtrOp.{PtrOp}
use Rattle.c_types.specs.declared.program.PtrOp.TheVariants.{Path as OpPath, Null as OpNull}
use Rattle.c_types.specs.declared.program.DataOp.{DataOp}
use Rattle.c_types.specs.declared.program.DataOp.TheVariants.{Path as DataOpPath, Known as DataOpKnown}
use Rattle.c_types.specs.declared.program.Atom.{Atom}
use Rattle.c_types.specs.declared.program.Atom.TheVariants.{Choice as ChoiceAtom, Known as KnownAtom, Ptr as PtrAtom}
use Rattle.c_types.specs.declared.program.Atom.TheVariants.{Data as DataAtom}
use Rattle.c_cfg.specs.Links.{leave_row}

-- the Kill of the temporaries that so many reads use
abbrev pub end_size : ℕ → ℕ
end_size zero = 0
end_size (suc n) = 1

-- so many reads, one more edge, and the end
abbrev pub step_size : ℕ → ℕ
step_size n = n + 1 + end_size n

-- the reads before the last arrow of a path, and the last one
abbrev pub path_size : List ℕ → ℕ
path_size [] = 1
path_size (f ∷ fs) = step_size (length fs)

abbrev pub var_size : PtrRhs → ℕ
var_size (RhsPath q) = path_size q.fields
var_size RhsNull = 1
var_size (RhsNew shape) = 1

-- an assignment to the end of one arrow more than n
abbrev pub field_size : ℕ → PtrRhs → ℕ
field_size n (RhsPath q) = step_size (length q.fields + n)
field_size n RhsNull = step_size n
field_size n (RhsNew shape) = n + 3

abbrev pub ptr_size : List ℕ → PtrRhs → ℕ
ptr_size [] from = var_size from
ptr_size (f ∷ fs) from = field_size (length fs) from

-- the reads of a datum
abbrev pub read_size : DataPath → ℕ
read_size (DataVar x) = 0
read_size (DataField base f) = length base.fields + 1

abbrev pub datum_size : DataPath → ℕ
datum_size (DataVar x) = 1
datum_size (DataField base f) = step_size (length base.fields)

abbrev pub data_var_size : DataRhs → ℕ
data_var_size (DataRhsPath q) = datum_size q
data_var_size (DataRhsKnown k) = 1
data_var_size DataRhsChoice = 1

-- an assignment to a data field of a cell behind n arrows
abbrev pub data_field_size : ℕ → DataRhs → ℕ
data_field_size n (DataRhsPath q) = step_size (read_size q + n)
data_field_size n (DataRhsKnown k) = step_size n
data_field_size n DataRhsChoice = n + 3

abbrev pub data_size : DataPath → DataRhs → ℕ
data_size (DataVar x) from = data_var_size from
data_size (DataField base f) from = data_field_size (length base.fields) from

abbrev pub return_size : Option DataPath → ℕ
return_size None = 1
return_size (Some q) = read_size q + 1

-- of a program with nv pointer and nd data variables and these functions
module _ (nv nd : ℕ) (funcs : List Func) where
  -- a `return` of a function, and one of a function that is not there
  abbrev pub leave_size : Option Func → Option Arg → ℕ
  leave_size None value = 1
  leave_size (Some g) value = length (leave_row nv nd g.result g.locals value)

  abbrev pub act_size : Act → ℕ
  act_size (SetPtr to from) = ptr_size to.fields from
  act_size (SetData to from) = data_size to from
  act_size (Free q) = step_size (length q.fields)
  act_size Error = 1
  act_size Halt = 1
  act_size (Return operand) = return_size operand
  act_size (LeaveAct f value) = leave_size (slice_get funcs f) value
  act_size Break = 1
  act_size Continue = 1

-- a test after so many reads, whose temporaries die on each branch
abbrev pub test_size : ℕ → ℕ
test_size n = suc (n + (end_size n + end_size n))

abbrev pub op_size : PtrOp → ℕ
op_size (OpPath q) = length q.fields
op_size OpNull = 0

abbrev pub data_op_size : DataOp → ℕ
data_op_size (DataOpPath q) = read_size q
data_op_size (DataOpKnown k) = 0

abbrev pub atom_size : Atom → ℕ
atom_size ChoiceAtom = 1
atom_size (KnownAtom b) = 1
atom_size (PtrAtom l r e) = test_size (op_size l + op_size r)
atom_size (DataAtom l r e) = test_size (data_op_size l + data_op_size r)
