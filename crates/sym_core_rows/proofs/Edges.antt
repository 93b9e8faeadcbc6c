-- What each kind of edge is: whether it is quiet, the variable whose cell it reads, writes or frees, what it needs
-- there.
use Rattle.std.proofs.Common.{◌≡◌, true, false, [], ◌∷◌, refl, Some, None, arith}
use Rattle.c_cfg.specs.declared.graph.Const.TheVariants.{Null as ConstNull, Known as ConstKnown}
use Rattle.c_cfg.specs.declared.graph.DataArg.TheVariants.{Known as ArgKnown}
use Rattle.c_cfg.specs.declared.graph.Instr.TheVariants.{CopyPtr, LoadPtr, StorePtr, StoreConst, New, Free, Kill}
use Rattle.c_cfg.specs.declared.graph.Instr.TheVariants.{CopyData, LoadData, StoreData, TestPtr, TestData, Choose, Stop}
use Rattle.c_cfg.specs.declared.graph.PtrArg.TheVariants.{Var as PtrVar, Null as PtrNull}
use Rattle.sym_core.specs.Kept.{base_of, Needs, Frees}
use Rattle.sym_core.specs.Quiet.{is_quiet}

-- Quiet: no pointer changes. Pointers are copied, read and written, cells are made and freed, pointer variables die.

copy_ptr : is_quiet (CopyPtr 0 PtrNull) ≡ false
copy_ptr = refl

load_ptr : is_quiet (LoadPtr 0 1 2) ≡ false
load_ptr = refl

store_ptr : is_quiet (StorePtr 0 1 2) ≡ false
store_ptr = refl

store_null : is_quiet (StoreConst 0 1 ConstNull) ≡ false
store_null = refl

-- a number goes into a data field
store_number : is_quiet (StoreConst 0 1 (ConstKnown 3)) ≡ true
store_number = refl

new_cell : is_quiet (New 0 1) ≡ false
new_cell = refl

free_cell : is_quiet (Free 0) ≡ false
free_cell = refl

kill_pointer : is_quiet (Kill (3 ∷ []) (4 ∷ [])) ≡ false
kill_pointer = refl

kill_datum : is_quiet (Kill [] (4 ∷ [])) ≡ true
kill_datum = refl

kill_nothing : is_quiet (Kill [] []) ≡ true
kill_nothing = refl

copy_data : is_quiet (CopyData 0 (ArgKnown 3)) ≡ true
copy_data = refl

load_data : is_quiet (LoadData 0 1 2) ≡ true
load_data = refl

store_data : is_quiet (StoreData 0 1 2) ≡ true
store_data = refl

test_ptr : is_quiet (TestPtr (PtrVar 0) PtrNull true) ≡ true
test_ptr = refl

test_data : is_quiet (TestData (ArgKnown 1) (ArgKnown 1) false) ≡ true
test_data = refl

choose : is_quiet (Choose None) ≡ true
choose = refl

-- the run ends, so nothing is quiet behind it
stop : is_quiet (Stop false) ≡ false
stop = refl

stop_error : is_quiet (Stop true) ≡ false
stop_error = refl

-- The base: to = from->field reads at `from`, to->field = from writes at `to`; the other variable is no base.

load_base : base_of (LoadPtr 1 2 3) ≡ Some 2
load_base = refl

store_base : base_of (StorePtr 1 2 3) ≡ Some 1
store_base = refl

const_base : base_of (StoreConst 1 2 (ConstKnown 3)) ≡ Some 1
const_base = refl

free_base : base_of (Free 7) ≡ Some 7
free_base = refl

load_data_base : base_of (LoadData 1 2 3) ≡ Some 2
load_data_base = refl

store_data_base : base_of (StoreData 1 2 3) ≡ Some 1
store_data_base = refl

copy_base : base_of (CopyPtr 1 (PtrVar 2)) ≡ None
copy_base = refl

new_base : base_of (New 1 0) ≡ None
new_base = refl

kill_base : base_of (Kill (1 ∷ []) []) ≡ None
kill_base = refl

copy_data_base : base_of (CopyData 1 (ArgKnown 2)) ≡ None
copy_data_base = refl

test_ptr_base : base_of (TestPtr (PtrVar 1) (PtrVar 2) true) ≡ None
test_ptr_base = refl

test_data_base : base_of (TestData (ArgKnown 1) (ArgKnown 1) true) ≡ None
test_data_base = refl

choose_base : base_of (Choose (Some 1)) ≡ None
choose_base = refl

stop_base : base_of (Stop true) ≡ None
stop_base = refl

-- Needs: the pointer field that is read or written, and that one alone; each field where a cell is freed.

load_needs : Needs (LoadPtr 1 2 3) 3
load_needs = refl

load_needs_no_other : Needs (LoadPtr 1 2 3) 2 → ⊥
load_needs_no_other e = omega (arith, e)

store_needs : Needs (StorePtr 1 2 3) 2
store_needs = refl

store_needs_no_other : Needs (StorePtr 1 2 3) 3 → ⊥
store_needs_no_other e = omega (arith, e)

null_needs : Needs (StoreConst 1 2 ConstNull) 2
null_needs = refl

null_needs_no_other : Needs (StoreConst 1 2 ConstNull) 1 → ⊥
null_needs_no_other e = omega (arith, e)

-- a number goes into a data field, whose number is no pointer field's
number_needs_nothing : Needs (StoreConst 1 2 (ConstKnown 3)) 2 → ⊥
number_needs_nothing h = h

free_needs : Needs (Free 7) 0
free_needs = tt

free_needs_all : Needs (Free 7) 5
free_needs_all = tt

copy_needs_nothing : Needs (CopyPtr 1 (PtrVar 2)) 0 → ⊥
copy_needs_nothing h = h

new_needs_nothing : Needs (New 1 0) 0 → ⊥
new_needs_nothing h = h

kill_needs_nothing : Needs (Kill (0 ∷ []) []) 0 → ⊥
kill_needs_nothing h = h

copy_data_needs_nothing : Needs (CopyData 0 (ArgKnown 0)) 0 → ⊥
copy_data_needs_nothing h = h

load_data_needs_nothing : Needs (LoadData 1 2 3) 3 → ⊥
load_data_needs_nothing h = h

store_data_needs_nothing : Needs (StoreData 1 2 3) 2 → ⊥
store_data_needs_nothing h = h

test_ptr_needs_nothing : Needs (TestPtr (PtrVar 0) PtrNull true) 0 → ⊥
test_ptr_needs_nothing h = h

test_data_needs_nothing : Needs (TestData (ArgKnown 0) (ArgKnown 0) true) 0 → ⊥
test_data_needs_nothing h = h

choose_needs_nothing : Needs (Choose (Some 0)) 0 → ⊥
choose_needs_nothing h = h

stop_needs_nothing : Needs (Stop false) 0 → ⊥
stop_needs_nothing h = h

free_frees : Frees (Free 7)
free_frees = tt

load_does_not_free : Frees (LoadPtr 1 2 3) → ⊥
load_does_not_free h = h

store_does_not_free : Frees (StorePtr 1 2 3) → ⊥
store_does_not_free h = h

null_does_not_free : Frees (StoreConst 1 2 ConstNull) → ⊥
null_does_not_free h = h

kill_does_not_free : Frees (Kill (1 ∷ []) []) → ⊥
kill_does_not_free h = h

number_does_not_free : Frees (StoreConst 1 2 (ConstKnown 3)) → ⊥
number_does_not_free h = h

copy_does_not_free : Frees (CopyPtr 1 PtrNull) → ⊥
copy_does_not_free h = h

new_does_not_free : Frees (New 1 0) → ⊥
new_does_not_free h = h

copy_data_does_not_free : Frees (CopyData 1 (ArgKnown 2)) → ⊥
copy_data_does_not_free h = h

load_data_does_not_free : Frees (LoadData 1 2 3) → ⊥
load_data_does_not_free h = h

store_data_does_not_free : Frees (StoreData 1 2 3) → ⊥
store_data_does_not_free h = h

test_ptr_does_not_free : Frees (TestPtr (PtrVar 0) PtrNull true) → ⊥
test_ptr_does_not_free h = h

test_data_does_not_free : Frees (TestData (ArgKnown 0) (ArgKnown 0) true) → ⊥
test_data_does_not_free h = h

choose_does_not_free : Frees (Choose (Some 0)) → ⊥
choose_does_not_free h = h

stop_does_not_free : Frees (Stop true) → ⊥
stop_does_not_free h = h
