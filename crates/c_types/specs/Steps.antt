-- One step of a program: what it does to the store, which items are left, and the faults that it can meet.
use Rattle.std.specs.Prelude.{ℕ, zero, suc, List, [], ◌∷◌, ◌++◌, length, replicate, nat_eq, Bool, true, false, not}
use Rattle.std.specs.Prelude.{if◌then◌else◌, Option, Some, None, Result, Ok, Err}
use Rattle.fore_base.specs.declared.fault.Fault.{Fault}
use Rattle.fore_base.specs.declared.fault.Fault.TheVariants.{Leak, Assertion, IndetTest}
use Rattle.fore_base.specs.declared.shape.Shape.{Shape}
use Rattle.fore_base.specs.declared.store.Value.{Value}
use Rattle.fore_base.specs.declared.store.Value.TheVariants.{Null, Uninit, Dangling, Cell}
use Rattle.fore_base.specs.declared.store.Datum.{Datum}
use Rattle.fore_base.specs.declared.store.Datum.TheVariants.{Undefined, Known}
use Rattle.fore_base.specs.declared.store.CellRec.{CellRec}
use Rattle.fore_base.specs.declared.store.Store.{Store}
use Rattle.fore_base.specs.Stores.{onward, var_of, datum_of, set_var, set_datum, kill, load_datum, store_datum, walk}
use Rattle.fore_base.specs.Stores.{write_from, grown, freed}
use Rattle.fore_base.specs.Heap.{leaks}
use Rattle.fore_base.specs.Shapes.{targets_of, datums_of}
use Rattle.c_types.specs.declared.mode.MallocMode.{MallocMode}
use Rattle.c_types.specs.declared.mode.MallocMode.TheVariants.{Always, MayFail}
use Rattle.c_types.specs.declared.program.Path.{Path}
use Rattle.c_types.specs.declared.program.DataPath.{DataPath}
use Rattle.c_types.specs.declared.program.DataPath.TheVariants.{Var as DataVar, Field as DataField}
use Rattle.c_types.specs.declared.program.PtrRhs.{PtrRhs}
use Rattle.c_types.specs.declared.program.PtrRhs.TheVariants.{Path as RhsPath, Null as RhsNull, New as RhsNew}
use Rattle.c_types.specs.declared.program.DataRhs.{DataRhs}
use Rattle.c_types.specs.declared.program.DataRhs.TheVariants.{Path as DataRhsPath, Known as DataRhsKnown}
use Rattle.c_types.specs.declared.program.DataRhs.TheVariants.{Choice as DataRhsChoice}
use Rattle.c_types.specs.declared.program.Act.{Act}
use Rattle.c_types.specs.declared.program.Act.TheVariants.{SetPtr, SetData, Free, Error, Halt, Return, Break, Continue}
use Rattle.c_types.specs.declared.program.Act.TheVariants.{Leave as LeaveAct}
use Rattle.c_types.specs.declared.program.PtrOp.{PtrOp}
use Rattle.c_types.specs.declared.program.PtrOp.TheVariants.{Path as OpPath, Null as OpNull}
use Rattle.c_types.specs.declared.program.DataOp.{DataOp}
use Rattle.c_types.specs.declared.program.DataOp.TheVariants.{Path as DataOpPath, Known as DataOpKnown}
use Rattle.c_types.specs.declared.program.VarRef.{VarRef}
use Rattle.c_types.specs.declared.program.VarRef.TheVariants.{Ptr as PtrVar, Data as DatumVar}
use Rattle.c_types.specs.declared.program.Arg.{Arg}
use Rattle.c_types.specs.declared.program.Arg.TheVariants.{Ptr as PtrArg, Data as DataArg}
use Rattle.c_types.specs.declared.program.Dest.{Dest}
use Rattle.c_types.specs.declared.program.Dest.TheVariants.{Ptr as PtrDest, Data as DataDest}
use Rattle.c_types.specs.declared.program.Atom.{Atom}
use Rattle.c_types.specs.declared.program.Atom.TheVariants.{Choice as ChoiceAtom, Known as KnownAtom, Ptr as PtrAtom}
use Rattle.c_types.specs.declared.program.Atom.TheVariants.{Data as DataAtom}
use Rattle.c_types.specs.Control.{Items, Done, Do, Close, If, Loop, Again, DoLoop, DoAgain, Ask, Not, Both, Either}
use Rattle.c_types.specs.Control.{Enter, Leave, Exit, ◌then◌, after_again, from_again, from_exit, closed_ptrs}
use Rattle.c_types.specs.Control.{closed_datums, ptr_vars, datum_vars, with_result}

-- In a `do` block the order of the lines is the order of evaluation, and the first fault ends it.
infixl 10 ◌>>=◌
abbrev pub ◌>>=◌ : {A B : Type 0} → Result A Fault → (A → Result B Fault) → Result B Fault
got >>= next = onward got next

-- Reading

-- a pointer: a variable, and the arrows from it, one after the other (6.5.2.3)
abbrev pub read : Store → Path → Result Value Fault
read s p = walk s (var_of s p.var) p.fields

-- a datum; an indeterminate one may be read, and copied
abbrev pub read_data : Store → DataPath → Result Datum Fault
read_data s (DataVar x) = Ok (datum_of s x)
read_data s (DataField base f) = do
  v ← read s base
  load_datum s v f

-- a pointer that is compared
abbrev pub read_op : Store → PtrOp → Result Value Fault
read_op s (OpPath p) = read s p
read_op s OpNull = Ok Null

-- a datum that is compared
abbrev pub read_data_op : Store → DataOp → Result Datum Fault
read_data_op s (DataOpPath p) = read_data s p
read_data_op s (DataOpKnown k) = Ok (Known k)

-- the right side of an assignment to a datum; x is the choice that was taken, if one was
abbrev pub read_data_rhs : Store → DataRhs → ℕ → Result Datum Fault
read_data_rhs s (DataRhsPath p) x = read_data s p
read_data_rhs s (DataRhsKnown k) x = Ok (Known k)
read_data_rhs s DataRhsChoice x = Ok (Known x)

-- what a `return` looks at (6.8.6.4)
abbrev pub look_at : Store → Option DataPath → Result Store Fault
look_at s None = Ok s
look_at s (Some p) = do
  d ← read_data s p
  Ok s

-- Comparing (6.5.9). A value that is indeterminate cannot be tested (6.2.4, 6.7.9).

abbrev pub same_values : Value → Value → Result Bool Fault
same_values Uninit _ = Err IndetTest
same_values Dangling _ = Err IndetTest
same_values _ Uninit = Err IndetTest
same_values _ Dangling = Err IndetTest
same_values Null Null = Ok true
same_values (Cell n) (Cell m) = Ok (nat_eq n m)
same_values _ _ = Ok false

abbrev pub same_datums : Datum → Datum → Result Bool Fault
same_datums (Known a) (Known b) = Ok (nat_eq a b)
same_datums _ _ = Err IndetTest

-- whether a comparison for equal, or for not equal, holds
abbrev pub agrees : Bool → Bool → Bool
agrees true same = same
agrees false same = not same

-- a choice as a truth
abbrev pub is_one : ℕ → Bool
is_one zero = false
is_one (suc n) = true

-- whether an atom holds: the left operand is read, then the right one, then both are compared
abbrev pub atom_of : Atom → Store → ℕ → Result Bool Fault
atom_of ChoiceAtom s x = Ok (is_one x)
atom_of (KnownAtom b) s x = Ok b
atom_of (PtrAtom l r equal) s x = do
  v ← read_op s l
  w ← read_op s r
  same ← same_values v w
  Ok (agrees equal same)
atom_of (DataAtom l r equal) s x = do
  d ← read_data_op s l
  e ← read_data_op s r
  same ← same_datums d e
  Ok (agrees equal same)

-- Writing (6.5.16.1). The path before its last arrow is followed, then the last arrow and the write.

abbrev pub write_path : Store → ℕ → List ℕ → Value → Result Store Fault
write_path s x [] v = Ok (set_var s x v)
write_path s x (f ∷ fs) v = write_from s (var_of s x) f fs v

abbrev pub write_data : Store → DataPath → Datum → Result Store Fault
write_data s (DataVar x) d = Ok (set_datum s x d)
write_data s (DataField base f) d = do
  v ← read s base
  store_datum s v f d

-- a new cell of a struct: its value is indeterminate (7.22.3.4)
abbrev pub blank : List Shape → ℕ → ℕ → CellRec
blank shapes number shape =
    record {
      number = number;
      shape = shape;
      datums = replicate (datums_of shapes shape) Undefined;
      fields = replicate (length (targets_of shapes shape)) Uninit;
    }

-- whether a `malloc` makes a cell, x being the choice that it takes, if it takes one (7.22.3)
abbrev pub makes_cell : MallocMode → ℕ → Bool
makes_cell Always x = true
makes_cell MayFail x = is_one x

-- an assignment from a `malloc` that makes a cell, or from one that makes none and gives the null pointer
abbrev pub assign_new : Bool → List Shape → Store → Path → ℕ → Result Store Fault
assign_new true shapes s to shape = write_path (grown s (blank shapes s.next shape)) to.var to.fields (Cell s.next)
assign_new false shapes s to shape = write_path s to.var to.fields Null

-- an assignment to a pointer, x being the choice that was taken, if one was: the right side first (6.5.16 leaves the
-- order open)
abbrev pub assign : List Shape → MallocMode → Store → Path → PtrRhs → ℕ → Result Store Fault
assign shapes mode s to (RhsPath from) x = do
  v ← read s from
  write_path s to.var to.fields v
assign shapes mode s to RhsNull x = write_path s to.var to.fields Null
assign shapes mode s to (RhsNew shape) x = assign_new (makes_cell mode x) shapes s to shape

-- an assignment to a datum, x being the choice that was taken, if one was
abbrev pub assign_data : Store → DataPath → DataRhs → ℕ → Result Store Fault
assign_data s to from x = do
  d ← read_data_rhs s from x
  write_data s to d

-- `free` of what stands at the end of a path (7.22.3.3)
abbrev pub free_path : Store → Path → Result Store Fault
free_path s p = do
  v ← read s p
  freed s v

-- Calls (6.5.2.2)

-- a variable is given the value of an operand (of its own kind, in a program)
abbrev pub give : Store → VarRef → Arg → Result Store Fault
give s (PtrVar x) (PtrArg p) = do
  v ← read_op s p
  Ok (set_var s x v)
give s (PtrVar x) (DataArg p) = Ok s
give s (DatumVar x) (PtrArg p) = Ok s
give s (DatumVar x) (DataArg p) = do
  d ← read_data_op s p
  Ok (set_datum s x d)

-- a call begins: each parameter is given the value of its argument, from the left (6.5.2.2 leaves the order open)
abbrev pub enter : Store → List VarRef → List Arg → Result Store Fault
enter s [] ws = Ok s
enter s (v ∷ vs) [] = Ok s
enter s (v ∷ vs) (a ∷ ws) = do
  t ← give s v a
  enter t vs ws

-- what is returned is given to the result (6.8.6.4)
abbrev pub give_back : Store → Option VarRef → Option Arg → Result Store Fault
give_back s None value = Ok s
give_back s (Some v) None = Ok s
give_back s (Some v) (Some a) = give s v a

-- these variables die (6.2.4)
abbrev pub without : List VarRef → Store → Store
without vs s = kill (ptr_vars vs) (datum_vars vs) s

-- `return` of a function: the local variables die after what is returned was looked at
abbrev pub leave : Store → Option VarRef → List VarRef → Option Arg → Result Store Fault
leave s result locals value = do
  t ← give_back s result value
  Ok (without locals t)

-- what a variable holds is assigned there (to what is of its own kind, in a program); it may be indeterminate
abbrev pub hand : Store → VarRef → Dest → Result Store Fault
hand s (PtrVar x) (PtrDest p) = write_path s p.var p.fields (var_of s x)
hand s (PtrVar x) (DataDest p) = Ok s
hand s (DatumVar x) (PtrDest p) = Ok s
hand s (DatumVar x) (DataDest p) = write_data s p (datum_of s x)

-- the result is assigned to the target of the call, if it has one
abbrev pub hand_over : Store → Option VarRef → Option Dest → Result Store Fault
hand_over s None to' = Ok s
hand_over s (Some v) None = Ok s
hand_over s (Some v) (Some d) = hand s v d

-- a call ends: the result and the parameters die after the result was assigned
abbrev pub exit : Store → Option VarRef → List VarRef → Option Dest → Result Store Fault
exit s result params to' = do
  t ← hand_over s result to'
  Ok (without (with_result result params) t)

-- Steps

-- the numbers below n
abbrev pub below : ℕ → List ℕ
below zero = []
below (suc n) = below n ++ n ∷ []

-- all variables die
abbrev pub all_dead : Store → Store
all_dead s = kill (below (length s.vars)) (below (length s.data_vars)) s

-- How a step goes: on with other items and another store, to the end, or into a fault.
pub data Turn : Type 0 where
  Goes : Items → Store → Turn
  Stops : Turn
  Faults : Fault → Turn

-- the leak test is the last part of a step
abbrev pub settle : Store → Items → Turn
settle s is = if leaks s then Faults Leak else Goes is s

-- a step that does something, which may meet a fault
abbrev pub settled : Result Store Fault → Items → Turn
settled (Ok s) is = settle s is
settled (Err k) is = Faults k

-- the end of a run with its leak test
abbrev pub finished : Result Store Fault → Turn
finished (Ok s) = if leaks (all_dead s) then Faults Leak else Stops
finished (Err k) = Faults k

-- what an act does, `is` being the items after it: `exit` and `abort` (7.22.4) and errors (7.2.1.1) make no leak test
-- (a Leave of a function that is there is an item of its own)
abbrev pub act_turn : List Shape → MallocMode → Act → Items → Store → ℕ → Turn
act_turn shapes mode (SetPtr to from) is s x = settled (assign shapes mode s to from x) is
act_turn shapes mode (SetData to from) is s x = settled (assign_data s to from x) is
act_turn shapes mode (Free p) is s x = settled (free_path s p) is
act_turn shapes mode Error is s x = Faults Assertion
act_turn shapes mode Halt is s x = Stops
act_turn shapes mode (Return operand) is s x = finished (look_at s operand)
act_turn shapes mode (LeaveAct f value) is s x = Stops
act_turn shapes mode Break is s x = settle (kill (closed_ptrs is) (closed_datums is) s) (after_again is)
act_turn shapes mode Continue is s x = settle (kill (closed_ptrs is) (closed_datums is) s) (from_again is)

-- the side of a test that is taken stands before the items after the test (6.8.4.1)
abbrev pub test_turn : Result Bool Fault → Items → Items → Items → Store → Turn
test_turn (Ok true) x y is s = settle s (x then is)
test_turn (Ok false) x y is s = settle s (y then is)
test_turn (Err k) x y is s = Faults k

-- one step of an opened list; x is the choice, where the step takes one (an opened list begins with none of the others)
abbrev pub turn_of : List Shape → MallocMode → Items → Store → ℕ → Turn
turn_of shapes mode Done s x = Stops
turn_of shapes mode (Do a m is) s x = act_turn shapes mode a is s x
turn_of shapes mode (Close ps ds m is) s x = settle (kill ps ds s) is
turn_of shapes mode (If (Ask a m) y n is) s x = test_turn (atom_of a s x) y n is s
turn_of shapes mode (If (Not c) y n is) s x = Stops
turn_of shapes mode (If (Both c d) y n is) s x = Stops
turn_of shapes mode (If (Either c d) y n is) s x = Stops
turn_of shapes mode (Loop c n b is) s x = Stops
turn_of shapes mode (Again c n b is) s x = Stops
turn_of shapes mode (DoLoop c b is) s x = Stops
turn_of shapes mode (DoAgain c b is) s x = Stops
turn_of shapes mode (Enter vs ws m is) s x = settled (enter s vs ws) is
turn_of shapes mode (Leave v vs a m is) s x = settled (leave s v vs a) (from_exit is)
turn_of shapes mode (Exit v vs d m is) s x = settled (exit s v vs d) is

-- Whether the first item of an opened list takes a choice, and its mark

abbrev pub atom_takes : Atom → Bool
atom_takes ChoiceAtom = true
atom_takes (KnownAtom b) = false
atom_takes (PtrAtom l r equal) = false
atom_takes (DataAtom l r equal) = false

abbrev pub data_rhs_takes : DataRhs → Bool
data_rhs_takes (DataRhsPath p) = false
data_rhs_takes (DataRhsKnown k) = false
data_rhs_takes DataRhsChoice = true

-- a `malloc` that may fail takes one
abbrev pub ptr_rhs_takes : MallocMode → PtrRhs → Bool
ptr_rhs_takes Always from = false
ptr_rhs_takes MayFail (RhsPath p) = false
ptr_rhs_takes MayFail RhsNull = false
ptr_rhs_takes MayFail (RhsNew shape) = true

abbrev pub act_takes : MallocMode → Act → Bool
act_takes mode (SetPtr to from) = ptr_rhs_takes mode from
act_takes mode (SetData to from) = data_rhs_takes from
act_takes mode (Free p) = false
act_takes mode Error = false
act_takes mode Halt = false
act_takes mode (Return operand) = false
act_takes mode (LeaveAct f value) = false
act_takes mode Break = false
act_takes mode Continue = false

abbrev pub takes : MallocMode → Items → Bool
takes mode Done = false
takes mode (Do a m is) = act_takes mode a
takes mode (Close ps ds m is) = false
takes mode (If (Ask a m) x y is) = atom_takes a
takes mode (If (Not c) x y is) = false
takes mode (If (Both c d) x y is) = false
takes mode (If (Either c d) x y is) = false
takes mode (Loop c n b is) = false
takes mode (Again c n b is) = false
takes mode (DoLoop c b is) = false
takes mode (DoAgain c b is) = false
takes mode (Enter vs ws m is) = false
takes mode (Leave v vs a m is) = false
takes mode (Exit v vs d m is) = false

abbrev pub mark_of : Items → ℕ
mark_of Done = 0
mark_of (Do a m is) = m
mark_of (Close ps ds m is) = m
mark_of (If (Ask a m) x y is) = m
mark_of (If (Not c) x y is) = 0
mark_of (If (Both c d) x y is) = 0
mark_of (If (Either c d) x y is) = 0
mark_of (Loop c n b is) = 0
mark_of (Again c n b is) = 0
mark_of (DoLoop c b is) = 0
mark_of (DoAgain c b is) = 0
mark_of (Enter vs ws m is) = m
mark_of (Leave v vs a m is) = m
mark_of (Exit v vs d m is) = m
