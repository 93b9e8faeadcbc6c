-- Rows on one edge, without its leak test.
use Rattle.std.proofs.Common.{◌≡◌, true, false, Some, None, List, [], ◌∷◌, refl}
use Rattle.fore_base.specs.declared.fault.Fault.TheVariants.{NullDeref, UninitDeref, DanglingDeref, InvalidFree}
use Rattle.fore_base.specs.declared.fault.Fault.TheVariants.{DoubleFree, Assertion, IndetTest}
use Rattle.fore_base.specs.declared.store.Value.{Value}
use Rattle.fore_base.specs.declared.store.Value.TheVariants.{Null, Uninit, Dangling, Cell}
use Rattle.fore_base.specs.declared.store.Datum.{Datum}
use Rattle.fore_base.specs.declared.store.Datum.TheVariants.{Undefined, Known}
use Rattle.fore_base.specs.declared.store.CellRec.{CellRec}
use Rattle.fore_base.specs.declared.store.Store.{Store}
use Rattle.c_cfg.specs.declared.graph.PtrArg.TheVariants.{Var as PtrVar, Null as PtrNull}
use Rattle.c_cfg.specs.declared.graph.DataArg.TheVariants.{Var as ArgVar, Known as ArgKnown}
use Rattle.c_cfg.specs.declared.graph.Const.TheVariants.{Null as ConstNull, Known as ConstKnown}
use Rattle.c_cfg.specs.declared.graph.Instr.{Instr}
use Rattle.c_cfg.specs.declared.graph.Instr.TheVariants.{CopyPtr, LoadPtr, StorePtr, StoreConst, New, Free, Kill}
use Rattle.c_cfg.specs.declared.graph.Instr.TheVariants.{CopyData, LoadData, StoreData, TestPtr, TestData, Choose, Stop}
use Rattle.c_cfg.specs.Edges.{Pass, Passed, Faulted, Halted, NotPassed, raw_step}
use Rattle.c_cfg.proofs.Rows.Forms.{two, node, leaf, store}

-- Variables 0 to 2 hold no cell, 3 and 4 nodes, 5 a leaf, 6 a cell that is not there. Node 4 points to node 6, which
-- points nowhere yet.

abbrev cells : List CellRec
cells = node 4 (Known 2) (Cell 6) (Cell 7) ∷ node 6 Undefined Null Uninit ∷ leaf 7 Undefined (Known 9) ∷ []

abbrev vars : Value → Value → List Value
vars first other = first ∷ Uninit ∷ Dangling ∷ Cell 4 ∷ other ∷ Cell 7 ∷ Cell 8 ∷ []

abbrev start : Store
start = store (vars Null (Cell 6)) (Undefined ∷ Known 3 ∷ Known 5 ∷ []) cells 9

-- an edge from there; 1 is its choice
abbrev by : Instr → Pass
by i = raw_step two i 1 start

-- the store with another value in variable 0; with another datum in data variable 0; with other cells
abbrev first_is : Value → Pass
first_is v = Passed (store (vars v (Cell 6)) (Undefined ∷ Known 3 ∷ Known 5 ∷ []) cells 9)

abbrev datum_is : Datum → Pass
datum_is d = Passed (store (vars Null (Cell 6)) (d ∷ Known 3 ∷ Known 5 ∷ []) cells 9)

abbrev cells_are : List CellRec → Pass
cells_are cs = Passed (store (vars Null (Cell 6)) (Undefined ∷ Known 3 ∷ Known 5 ∷ []) cs 9)

-- the two nodes with other fields
abbrev nodes_are : Value → Value → Value → Value → Pass
nodes_are next leaf' next' leaf'' =
    cells_are (node 4 (Known 2) next leaf' ∷ node 6 Undefined next' leaf'' ∷ leaf 7 Undefined (Known 9) ∷ [])

-- CopyPtr: any value may be copied

copies_a_cell : by (CopyPtr 0 (PtrVar 3)) ≡ first_is (Cell 4)
copies_a_cell = refl

copies_null : by (CopyPtr 4 PtrNull) ≡ Passed (store (vars Null Null) (Undefined ∷ Known 3 ∷ Known 5 ∷ []) cells 9)
copies_null = refl

copies_uninit : by (CopyPtr 0 (PtrVar 1)) ≡ first_is Uninit
copies_uninit = refl

copies_dangling : by (CopyPtr 0 (PtrVar 2)) ≡ first_is Dangling
copies_dangling = refl

-- LoadPtr

loads_first_field : by (LoadPtr 0 3 0) ≡ first_is (Cell 6)
loads_first_field = refl

loads_second_field : by (LoadPtr 0 3 1) ≡ first_is (Cell 7)
loads_second_field = refl

loads_from_the_second_node : by (LoadPtr 0 4 1) ≡ first_is Uninit
loads_from_the_second_node = refl

loads_from_null : by (LoadPtr 3 0 0) ≡ Faulted NullDeref
loads_from_null = refl

loads_from_uninit : by (LoadPtr 0 1 0) ≡ Faulted UninitDeref
loads_from_uninit = refl

loads_from_dangling : by (LoadPtr 0 2 0) ≡ Faulted DanglingDeref
loads_from_dangling = refl

-- a node has two pointer fields, a leaf none; no cell has the number 8
loads_no_field : by (LoadPtr 0 3 2) ≡ NotPassed
loads_no_field = refl

loads_from_a_leaf : by (LoadPtr 0 5 0) ≡ NotPassed
loads_from_a_leaf = refl

loads_from_no_cell : by (LoadPtr 0 6 0) ≡ NotPassed
loads_from_no_cell = refl

-- StorePtr

stores_a_node : by (StorePtr 4 0 3) ≡ nodes_are (Cell 6) (Cell 7) (Cell 4) Uninit
stores_a_node = refl

stores_a_leaf : by (StorePtr 4 1 5) ≡ nodes_are (Cell 6) (Cell 7) Null (Cell 7)
stores_a_leaf = refl

stores_null : by (StorePtr 3 0 0) ≡ nodes_are Null (Cell 7) Null Uninit
stores_null = refl

stores_uninit : by (StorePtr 3 1 1) ≡ nodes_are (Cell 6) Uninit Null Uninit
stores_uninit = refl

stores_dangling : by (StorePtr 3 0 2) ≡ nodes_are Dangling (Cell 7) Null Uninit
stores_dangling = refl

stores_at_null : by (StorePtr 0 0 3) ≡ Faulted NullDeref
stores_at_null = refl

stores_at_uninit : by (StorePtr 1 0 3) ≡ Faulted UninitDeref
stores_at_uninit = refl

stores_at_dangling : by (StorePtr 2 0 3) ≡ Faulted DanglingDeref
stores_at_dangling = refl

stores_no_field : by (StorePtr 3 2 0) ≡ NotPassed
stores_no_field = refl

stores_in_a_leaf : by (StorePtr 5 0 0) ≡ NotPassed
stores_in_a_leaf = refl

stores_in_no_cell : by (StorePtr 6 0 0) ≡ NotPassed
stores_in_no_cell = refl

-- a cell of another struct than the field's; a cell that is not there
stores_a_leaf_as_a_node : by (StorePtr 3 0 5) ≡ NotPassed
stores_a_leaf_as_a_node = refl

stores_a_node_as_a_leaf : by (StorePtr 3 1 4) ≡ NotPassed
stores_a_node_as_a_leaf = refl

stores_no_cell : by (StorePtr 3 0 6) ≡ NotPassed
stores_no_cell = refl

-- StoreConst

sets_null : by (StoreConst 3 1 ConstNull) ≡ nodes_are (Cell 6) Null Null Uninit
sets_null = refl

sets_a_number : by (StoreConst 5 1 (ConstKnown 4))
    ≡ cells_are (node 4 (Known 2) (Cell 6) (Cell 7) ∷ node 6 Undefined Null Uninit ∷ leaf 7 Undefined (Known 4) ∷ [])
sets_a_number = refl

sets_at_null : by (StoreConst 0 0 ConstNull) ≡ Faulted NullDeref
sets_at_null = refl

sets_at_uninit : by (StoreConst 1 0 (ConstKnown 4)) ≡ Faulted UninitDeref
sets_at_uninit = refl

sets_at_dangling : by (StoreConst 2 0 (ConstKnown 4)) ≡ Faulted DanglingDeref
sets_at_dangling = refl

sets_null_in_no_field : by (StoreConst 5 0 ConstNull) ≡ NotPassed
sets_null_in_no_field = refl

sets_a_number_in_no_field : by (StoreConst 3 1 (ConstKnown 4)) ≡ NotPassed
sets_a_number_in_no_field = refl

-- New: a node has two pointers and a datum, a leaf two data

makes_a_node : by (New 0 0)
    ≡ Passed
    (store (vars (Cell 9) (Cell 6)) (Undefined ∷ Known 3 ∷ Known 5 ∷ [])
    (node 4 (Known 2) (Cell 6) (Cell 7) ∷ node 6 Undefined Null Uninit ∷ leaf 7 Undefined (Known 9)
    ∷ node 9 Undefined Uninit Uninit ∷ []) 10)
makes_a_node = refl

makes_a_leaf : by (New 4 1)
    ≡ Passed
    (store (vars Null (Cell 9)) (Undefined ∷ Known 3 ∷ Known 5 ∷ [])
    (node 4 (Known 2) (Cell 6) (Cell 7) ∷ node 6 Undefined Null Uninit ∷ leaf 7 Undefined (Known 9)
    ∷ leaf 9 Undefined Undefined ∷ []) 10)
makes_a_leaf = refl

-- Free

frees_null : by (Free 0) ≡ Passed start
frees_null = refl

frees_uninit : by (Free 1) ≡ Faulted InvalidFree
frees_uninit = refl

frees_dangling : by (Free 2) ≡ Faulted DoubleFree
frees_dangling = refl

-- variable 4 and the first field of node 4 named it
frees_a_node : by (Free 4)
    ≡ Passed
    (store (vars Null Dangling) (Undefined ∷ Known 3 ∷ Known 5 ∷ [])
    (node 4 (Known 2) Dangling (Cell 7) ∷ leaf 7 Undefined (Known 9) ∷ []) 9)
frees_a_node = refl

-- Kill

kills_two_of_each : by (Kill (0 ∷ 4 ∷ []) (1 ∷ 2 ∷ []))
    ≡ Passed (store (vars Uninit Uninit) (Undefined ∷ Undefined ∷ Undefined ∷ []) cells 9)
kills_two_of_each = refl

kills_nothing : by (Kill [] []) ≡ Passed start
kills_nothing = refl

-- CopyData: Undefined may be copied

copies_a_datum : by (CopyData 0 (ArgVar 1)) ≡ datum_is (Known 3)
copies_a_datum = refl

copies_a_number : by (CopyData 0 (ArgKnown 7)) ≡ datum_is (Known 7)
copies_a_number = refl

copies_undefined : by (CopyData 1 (ArgVar 0))
    ≡ Passed (store (vars Null (Cell 6)) (Undefined ∷ Undefined ∷ Known 5 ∷ []) cells 9)
copies_undefined = refl

-- LoadData

loads_a_datum : by (LoadData 0 5 1) ≡ datum_is (Known 9)
loads_a_datum = refl

loads_undefined : by (LoadData 1 5 0)
    ≡ Passed (store (vars Null (Cell 6)) (Undefined ∷ Undefined ∷ Known 5 ∷ []) cells 9)
loads_undefined = refl

loads_a_datum_from_null : by (LoadData 0 0 0) ≡ Faulted NullDeref
loads_a_datum_from_null = refl

loads_a_datum_from_uninit : by (LoadData 0 1 0) ≡ Faulted UninitDeref
loads_a_datum_from_uninit = refl

loads_a_datum_from_dangling : by (LoadData 0 2 0) ≡ Faulted DanglingDeref
loads_a_datum_from_dangling = refl

loads_no_datum : by (LoadData 0 3 1) ≡ NotPassed
loads_no_datum = refl

loads_a_datum_from_no_cell : by (LoadData 0 6 0) ≡ NotPassed
loads_a_datum_from_no_cell = refl

-- StoreData

stores_a_datum : by (StoreData 4 0 2)
    ≡ cells_are (node 4 (Known 2) (Cell 6) (Cell 7) ∷ node 6 (Known 5) Null Uninit ∷ leaf 7 Undefined (Known 9) ∷ [])
stores_a_datum = refl

stores_undefined : by (StoreData 5 1 0)
    ≡ cells_are (node 4 (Known 2) (Cell 6) (Cell 7) ∷ node 6 Undefined Null Uninit ∷ leaf 7 Undefined Undefined ∷ [])
stores_undefined = refl

stores_a_datum_at_null : by (StoreData 0 0 1) ≡ Faulted NullDeref
stores_a_datum_at_null = refl

stores_a_datum_at_uninit : by (StoreData 1 0 1) ≡ Faulted UninitDeref
stores_a_datum_at_uninit = refl

stores_a_datum_at_dangling : by (StoreData 2 0 1) ≡ Faulted DanglingDeref
stores_a_datum_at_dangling = refl

stores_no_datum : by (StoreData 4 1 1) ≡ NotPassed
stores_no_datum = refl

stores_a_datum_in_no_cell : by (StoreData 6 0 1) ≡ NotPassed
stores_a_datum_in_no_cell = refl

-- TestPtr: each of the two edges, on equal and on other pointers

equal_is_equal : by (TestPtr (PtrVar 3) (PtrVar 3) true) ≡ Passed start
equal_is_equal = refl

equal_is_not_other : by (TestPtr (PtrVar 3) (PtrVar 3) false) ≡ NotPassed
equal_is_not_other = refl

other_is_not_equal : by (TestPtr (PtrVar 3) (PtrVar 4) true) ≡ NotPassed
other_is_not_equal = refl

other_is_other : by (TestPtr (PtrVar 3) (PtrVar 4) false) ≡ Passed start
other_is_other = refl

null_is_null : by (TestPtr (PtrVar 0) PtrNull true) ≡ Passed start
null_is_null = refl

a_cell_is_not_null : by (TestPtr PtrNull (PtrVar 3) true) ≡ NotPassed
a_cell_is_not_null = refl

-- an indeterminate operand, on either side, on either edge
tests_uninit : by (TestPtr (PtrVar 1) PtrNull true) ≡ Faulted IndetTest
tests_uninit = refl

tests_uninit_for_other : by (TestPtr PtrNull (PtrVar 1) false) ≡ Faulted IndetTest
tests_uninit_for_other = refl

tests_dangling : by (TestPtr (PtrVar 2) (PtrVar 2) false) ≡ Faulted IndetTest
tests_dangling = refl

tests_against_dangling : by (TestPtr (PtrVar 3) (PtrVar 2) true) ≡ Faulted IndetTest
tests_against_dangling = refl

-- TestData

data_are_equal : by (TestData (ArgVar 1) (ArgKnown 3) true) ≡ Passed start
data_are_equal = refl

data_are_not_other : by (TestData (ArgKnown 3) (ArgVar 1) false) ≡ NotPassed
data_are_not_other = refl

data_are_not_equal : by (TestData (ArgVar 1) (ArgVar 2) true) ≡ NotPassed
data_are_not_equal = refl

data_are_other : by (TestData (ArgVar 1) (ArgVar 2) false) ≡ Passed start
data_are_other = refl

tests_undefined : by (TestData (ArgVar 0) (ArgKnown 0) true) ≡ Faulted IndetTest
tests_undefined = refl

tests_against_undefined : by (TestData (ArgVar 1) (ArgVar 0) false) ≡ Faulted IndetTest
tests_against_undefined = refl

-- Choose and Stop

chooses_to_a_variable : by (Choose (Some 0)) ≡ datum_is (Known 1)
chooses_to_a_variable = refl

chooses_zero : raw_step two (Choose (Some 0)) 0 start ≡ datum_is (Known 0)
chooses_zero = refl

chooses_without_a_variable : by (Choose None) ≡ Passed start
chooses_without_a_variable = refl

stops_in_error : by (Stop true) ≡ Faulted Assertion
stops_in_error = refl

stops : by (Stop false) ≡ Halted
stops = refl
