-- Rows on the leak test of an edge.
use Rattle.std.proofs.Common.{◌≡◌, true, false, Some, [], ◌∷◌, refl}
use Rattle.fore_base.specs.declared.fault.Fault.TheVariants.{NullDeref, Leak, Assertion}
use Rattle.fore_base.specs.declared.store.Value.TheVariants.{Null, Cell}
use Rattle.fore_base.specs.declared.store.Datum.TheVariants.{Undefined, Known}
use Rattle.fore_base.specs.declared.store.Store.{Store}
use Rattle.fore_base.specs.Heap.{leaks}
use Rattle.c_cfg.specs.declared.graph.PtrArg.TheVariants.{Var as PtrVar, Null as PtrNull}
use Rattle.c_cfg.specs.declared.graph.Instr.{Instr}
use Rattle.c_cfg.specs.declared.graph.Instr.TheVariants.{CopyPtr, LoadPtr, New, Kill, TestPtr, Choose, Stop}
use Rattle.c_cfg.specs.Edges.{Pass, Passed, Faulted, Halted, NotPassed, gstep}
use Rattle.c_cfg.proofs.Rows.Forms.{two, node, store, goes, takes}

-- one node, at variable 0
abbrev held : Store
held = store (Cell 1 ∷ Null ∷ []) (Undefined ∷ []) (node 1 Undefined Null Null ∷ []) 2

-- the same, at no variable
abbrev lost : Store
lost = store (Null ∷ Null ∷ []) (Undefined ∷ []) (node 1 Undefined Null Null ∷ []) 2

abbrev on : Store → Instr → Pass
on s i = gstep two (goes 0 1 i 5) s

keeps_its_cell : on held (CopyPtr 1 (PtrVar 0))
    ≡ Passed (store (Cell 1 ∷ Cell 1 ∷ []) (Undefined ∷ []) (node 1 Undefined Null Null ∷ []) 2)
unfolding leaks
keeps_its_cell = refl

loses_its_cell : on held (CopyPtr 0 PtrNull) ≡ Faulted Leak
unfolding leaks
loses_its_cell = refl

loses_by_a_load : on held (LoadPtr 0 0 1) ≡ Faulted Leak
unfolding leaks
loses_by_a_load = refl

loses_by_a_new_cell : on held (New 0 0) ≡ Faulted Leak
unfolding leaks
loses_by_a_new_cell = refl

loses_by_a_death : on held (Kill (0 ∷ []) []) ≡ Faulted Leak
unfolding leaks
loses_by_a_death = refl

-- a test that passes is looked at, one that does not is not
a_test_that_passes : on lost (TestPtr (PtrVar 0) PtrNull true) ≡ Faulted Leak
unfolding leaks
a_test_that_passes = refl

a_test_that_does_not : on lost (TestPtr (PtrVar 0) PtrNull false) ≡ NotPassed
unfolding leaks
a_test_that_does_not = refl

-- another fault comes first, and the end of a run makes no leak test
a_fault_comes_first : on lost (LoadPtr 0 1 0) ≡ Faulted NullDeref
unfolding leaks
a_fault_comes_first = refl

an_error_comes_first : on lost (Stop true) ≡ Faulted Assertion
unfolding leaks
an_error_comes_first = refl

the_end_makes_none : on lost (Stop false) ≡ Halted
unfolding leaks
the_end_makes_none = refl

-- an edge gives its own choice
gives_its_one : gstep two (takes 0 1 (Choose (Some 0)) 1 5) held
    ≡ Passed (store (Cell 1 ∷ Null ∷ []) (Known 1 ∷ []) (node 1 Undefined Null Null ∷ []) 2)
unfolding leaks
gives_its_one = refl

gives_its_zero : gstep two (takes 0 1 (Choose (Some 0)) 0 5) held
    ≡ Passed (store (Cell 1 ∷ Null ∷ []) (Known 0 ∷ []) (node 1 Undefined Null Null ∷ []) 2)
unfolding leaks
gives_its_zero = refl
