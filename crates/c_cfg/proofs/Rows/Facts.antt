-- Rows on fans, on numbers in range, and on what edges do to alike stores.
use Rattle.std.proofs.Common.{◌≡◌, true, Some, None, List, [], ◌∷◌, refl, arith}
use Rattle.fore_base.specs.declared.fault.Fault.TheVariants.{NullDeref, UninitDeref}
use Rattle.fore_base.specs.declared.store.Value.TheVariants.{Null, Uninit}
use Rattle.fore_base.specs.declared.store.Datum.TheVariants.{Undefined}
use Rattle.fore_base.specs.Heap.{leaks}
use Rattle.c_cfg.specs.declared.graph.PtrArg.TheVariants.{Var as PtrVar, Null as PtrNull}
use Rattle.c_cfg.specs.declared.graph.DataArg.TheVariants.{Known as ArgKnown}
use Rattle.c_cfg.specs.declared.graph.Const.TheVariants.{Known as ConstKnown}
use Rattle.c_cfg.specs.declared.graph.Instr.{Instr}
use Rattle.c_cfg.specs.declared.graph.Instr.TheVariants.{CopyPtr, LoadPtr, StoreConst, New, Kill, CopyData, Choose}
use Rattle.c_cfg.specs.declared.graph.Instr.TheVariants.{Stop}
use Rattle.c_cfg.specs.declared.graph.Edge.{Edge}
use Rattle.c_cfg.specs.Graphs.{HasChoiceAsChoose}
use Rattle.c_cfg.specs.Edges.{Passed, Faulted, Halted, NotPassed}
use Rattle.c_cfg.specs.Lowering.{edge}
use Rattle.c_cfg.specs.Fans.{AreOpposed, first_out, second_out, one_fault, IsFan, one_edge, choices, test}
use Rattle.c_cfg.specs.Ranges.{InstrFits, EdgeFits}
use Rattle.c_cfg.specs.Alike.{LikePass, IsUnset}
use Rattle.c_cfg.proofs.Rows.Forms.{two, store}

-- Fans

abbrev zero_first : List Edge
zero_first = edge 3 0 1 (Choose None) (Some 0) ∷ edge 3 0 2 (Choose None) (Some 1) ∷ []

a_choice_fans_out : IsFan two zero_first
a_choice_fans_out = choices (edge 3 0 1 (Choose None) (Some 0)) (edge 3 0 2 (Choose None) (Some 1)) refl refl refl

a_malloc_fans_out : IsFan two (edge 3 0 1 (CopyPtr 0 PtrNull) (Some 0) ∷ edge 3 0 1 (New 0 0) (Some 1) ∷ [])
a_malloc_fans_out = choices (edge 3 0 1 (CopyPtr 0 PtrNull) (Some 0)) (edge 3 0 1 (New 0 0) (Some 1)) refl refl refl

-- the choice 1 first, one choice alone, two lines
one_first : IsFan two (edge 3 0 1 (Choose None) (Some 1) ∷ edge 3 0 2 (Choose None) (Some 0) ∷ []) → ⊥
one_first (choices e f zero one line) = cc
one_first (test e f none also line are) = cc

one_choice : IsFan two (edge 3 0 1 (Choose None) (Some 0) ∷ []) → ⊥
one_choice (one_edge e none) = cc

two_lines : IsFan two (edge 3 0 1 (Choose None) (Some 0) ∷ edge 4 0 2 (Choose None) (Some 1) ∷ []) → ⊥
two_lines (choices e f zero one line) = let differ : 3 ≡ 4 = line in omega (arith, differ)
two_lines (test e f none also line are) = cc

-- two edges that both pass
both_pass : IsFan two (edge 3 0 1 (Kill [] []) None ∷ edge 3 0 2 (Kill [] []) None ∷ []) → ⊥
unfolding leaks
both_pass (choices e f zero one line) = cc
both_pass (test e f none also line are) = not_opposed (are (store [] [] [] 1))
  where
    not_opposed : AreOpposed (Passed (store [] [] [] 1)) (Passed (store [] [] [] 1)) → ⊥
    not_opposed (first_out p) = cc
    not_opposed (second_out q) = cc
    not_opposed (one_fault k p q) = cc

-- Numbers in range: of five pointer and three data variables, and the structs of the other rows

abbrev fits : Instr → Type 0
fits = InstrFits 5 3 two

variables_fit : fits (CopyPtr 4 (PtrVar 3))
variables_fit = (omega arith, omega arith)

a_variable_too_high : fits (CopyPtr 0 (PtrVar 5)) → ⊥
a_variable_too_high h = let l = h.1 in omega (arith, l)

a_target_too_high : fits (CopyPtr 5 PtrNull) → ⊥
a_target_too_high h = let l = h.0 in omega (arith, l)

-- a node has two pointer fields, and no struct has more
a_field_fits : fits (LoadPtr 0 1 1)
a_field_fits = (omega arith, omega arith, record { shape = 0; is_there = omega arith })

a_struct_too_high : fits (New 0 2) → ⊥
a_struct_too_high h = let l = h.1 in omega (arith, l)

the_last_datum_fits : fits (CopyData 2 (ArgKnown 15))
the_last_datum_fits = (omega arith, omega arith)

a_datum_too_high : fits (CopyData 2 (ArgKnown 16)) → ⊥
a_datum_too_high h = let l = h.1 in omega (arith, l)

a_constant_too_high : fits (StoreConst 0 0 (ConstKnown 16)) → ⊥
a_constant_too_high h = let l = h.1.1 in omega (arith, l)

a_dead_variable_too_high : fits (Kill (0 ∷ 5 ∷ []) []) → ⊥
a_dead_variable_too_high h = let l = h.0.1.0 in omega (arith, l)

a_dead_datum_too_high : fits (Kill [] (3 ∷ [])) → ⊥
a_dead_datum_too_high h = let l = h.1.0 in omega (arith, l)

a_choice_too_high : EdgeFits 5 3 two (edge 1 0 1 (Choose (Some 0)) (Some 2)) → ⊥
a_choice_too_high h = let l = h.choice in omega (arith, l)

a_choice_that_is_none : EdgeFits 5 3 two (edge 1 0 1 (Choose (Some 0)) None) → ⊥
a_choice_that_is_none h = let e = h.has_its_choice in cc

-- the two edges of a `malloc` that may fail have the choices 0 and 1, each its own
a_new_with_one : EdgeFits 5 3 two (edge 1 0 1 (New 0 1) (Some 1))
a_new_with_one = record { instr = (omega arith, omega arith); has_its_choice = refl; choice = omega arith }

a_new_with_none : EdgeFits 5 3 two (edge 1 0 1 (New 0 1) None)
a_new_with_none = record { instr = (omega arith, omega arith); has_its_choice = refl; choice = tt }

a_new_with_zero : EdgeFits 5 3 two (edge 1 0 1 (New 0 1) (Some 0)) → ⊥
a_new_with_zero h = let e = h.has_its_choice in cc

a_null_with_zero : EdgeFits 5 3 two (edge 1 0 1 (CopyPtr 4 PtrNull) (Some 0))
a_null_with_zero = record { instr = (omega arith, tt); has_its_choice = refl; choice = omega arith }

a_null_with_none : EdgeFits 5 3 two (edge 1 0 1 (CopyPtr 4 PtrNull) None)
a_null_with_none = record { instr = (omega arith, tt); has_its_choice = refl; choice = tt }

a_null_with_one : EdgeFits 5 3 two (edge 1 0 1 (CopyPtr 4 PtrNull) (Some 1)) → ⊥
a_null_with_one h = let e = h.has_its_choice in cc

a_copy_with_zero : EdgeFits 5 3 two (edge 1 0 1 (CopyPtr 4 (PtrVar 3)) (Some 0)) → ⊥
a_copy_with_zero h = let e = h.has_its_choice in cc

-- where each `malloc` gives a cell a choice stands exactly at a Choose
a_choose_as_choose : HasChoiceAsChoose (edge 1 0 1 (Choose None) (Some 1))
a_choose_as_choose = refl

a_new_as_choose : HasChoiceAsChoose (edge 1 0 1 (New 0 1) (Some 1)) → ⊥
a_new_as_choose e = cc

a_choose_without_a_choice : HasChoiceAsChoose (edge 1 0 1 (Choose None) None) → ⊥
a_choose_without_a_choice e = cc

a_stop_with_a_choice : EdgeFits 5 3 two (edge 1 0 1 (Stop true) (Some 0)) → ⊥
a_stop_with_a_choice h = let e = h.has_its_choice in cc

-- Alike

another_fault : LikePass (Faulted NullDeref) (Faulted UninitDeref) → ⊥
another_fault e = cc

a_fault_and_none : LikePass (Faulted NullDeref) NotPassed → ⊥
a_fault_and_none h = h

an_end_and_none : LikePass Halted NotPassed → ⊥
an_end_and_none h = h

unset_with_another_next : IsUnset 2 1 (store (Uninit ∷ Uninit ∷ []) (Undefined ∷ []) [] 9)
unset_with_another_next = record { vars = refl; data_vars = refl; cells = refl }

one_set : IsUnset 2 1 (store (Uninit ∷ Null ∷ []) (Undefined ∷ []) [] 1) → ⊥
one_set h = let e = h.vars in cc
