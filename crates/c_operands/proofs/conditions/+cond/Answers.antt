use Rattle.std.proofs.Common.{arith, ◌∙◌, sym, ap, subst, ◌++◌, ◌∷◌, [], refl}
use Rattle.std.proofs.lemmas.Result.{IfOk-weaker, IfErr-weaker}
use Rattle.c_ast.specs.declared.conditions.Unary.TheVariants as unary'
use Rattle.c_grammar.specs.words.Faults.{Takes, Fails}
use Rattle.c_grammar.specs.words.Faults.Fails.{no_memory}
use Rattle.c_grammar.specs.words.Sets.{begins_operand, begins_nested, operand_goes_on, test_goes_on, and_goes_on}
use Rattle.c_grammar.specs.words.Sets.{cond_goes_on, no_sign}
use Rattle.c_reader.specs.Bounds.{Stops, Reads}
use Rattle.c_grammar.specs.words.Shapes.{a_comparison, an_inner_unary, a_unary, a_test, next_test, some_tests, next_and}
use Rattle.c_grammar.specs.words.Shapes.{some_ands, a_cond}
use Rattle.c_grammar.specs.Syntax.{and_of, cond_of}
use Rattle.c_grammar.specs.declared.signs.Sign.TheVariants.{And, Or}
use Rattle.c_grammar.proofs.Conditions.{ands, ors, good_test, good_next_test, good_and, good_next_and}
use Rattle.c_grammar.proofs.Conditions.{least_test, least_and, unary_stays, test_stays}
use Rattle.c_grammar.proofs.Conditions.{unary_nested_fails, unary_nested_takes, test_nested_fails, test_nested_takes}
use Rattle.c_grammar.proofs.Conditions.{unary_operand_fails, unary_operand_takes, test_compared_fails}
use Rattle.c_grammar.proofs.Conditions.{test_compared_takes, not_fails, not_takes, bad_cond, no_close, brackets_take}
use Rattle.c_grammar.proofs.Lists.{lists, leads_more, leads_end, leads_stuck, leads_as}
use Rattle.c_grammar.proofs.Parts.{fails_made, takes_made}
use Rattle.c_grammar.proofs.Series.{series_fails, series_begun, word_fails, behind_fails, takes_behind}
use Rattle.c_grammar.proofs.Steps.{passed}
use Rattle.c_operands.proofs.conditions.«+cond».Goals as goal

pub cond-returns-in_err-ands-clause-err : goal.cond-returns-in_err-ands-clause-err
cond-returns-in_err-ands-clause-err n c =
    passed c.from_residual.result (Stops a_cond c.args.bounds.now c.args.left.now) c.from_residual.ensures.1
    (fails_made cond_of _ c.in_err-ands.ensures.err)

pub cond-returns-clause-ok : goal.cond-returns-clause-ok
cond-returns-clause-ok n c =
    takes_made cond_of c.in_ok-ands.ensures.ok

pub all_tests-returns-in_err-first-clause-err : goal.all_tests-returns-in_err-first-clause-err
all_tests-returns-in_err-first-clause-err n c =
    passed c.from_residual.result (Stops some_tests c.args.bounds.now c.args.left.now) c.from_residual.ensures.1
    (series_fails And and_goes_on begins_nested good_test refl refl refl c.in_err-first.ensures.err)

pub all_tests-returns-in_err-push-clause-err : goal.all_tests-returns-in_err-push-clause-err
all_tests-returns-in_err-push-clause-err n c =
    passed c.from_residual-in_err-push.result (Stops some_tests c.args.bounds.now c.args.left.now)
    c.from_residual-in_err-push.ensures.1 no_memory

pub all_tests-tests-init : goal.all_tests-tests-init
all_tests-tests-init n c =
    record {
      shorter = c.in_ok-first.ensures.shorter;
      leads =
          leads_as (c.in_ok-push.ensures.ok ∙ ap (λ l. l ++ c.in_ok-first.first ∷ []) c.new-all.ensures)
          (series_begun And and_goes_on begins_nested good_test refl refl refl c.in_ok-first.ensures.ok);
    }

pub all_tests-returns-in_err-next-clause-err : goal.all_tests-returns-in_err-next-clause-err
all_tests-returns-in_err-next-clause-err n c =
    passed c.from_residual-in_err-next.result (Stops some_tests c.args.bounds.now c.args.left.now)
    c.from_residual-in_err-next.ensures.1
    (leads_stuck good_next_test (lists ands test_goes_on no_sign no_sign refl refl refl refl refl)
    c.tests.invariant.leads (sym c.is_next.ensures ∙ c.tests-test.true) _ c.in_err-next.ensures.err)

pub all_tests-returns-in_err-push-2-clause-err : goal.all_tests-returns-in_err-push-2-clause-err
all_tests-returns-in_err-push-2-clause-err n c =
    passed c.from_residual-in_err-push-2.result (Stops some_tests c.args.bounds.now c.args.left.now)
    c.from_residual-in_err-push-2.ensures.1 no_memory

pub all_tests-tests-preserved : goal.all_tests-tests-preserved
all_tests-tests-preserved n c =
    record {
      shorter = omega (arith, c.tests.invariant.shorter, c.in_ok-next.ensures.shorter);
      leads =
          leads_as c.in_ok-push-2.ensures.ok
          (leads_more good_next_test (lists ands test_goes_on no_sign no_sign refl refl refl refl refl)
          c.tests.invariant.leads _ _ (sym c.is_next.ensures ∙ c.tests-test.true) c.in_ok-next.ensures.ok);
    }

pub all_tests-returns-clause-ok : goal.all_tests-returns-clause-ok
all_tests-returns-clause-ok n c =
    leads_end good_next_test (lists ands test_goes_on no_sign no_sign refl refl refl refl refl) c.tests.invariant.leads
    (sym c.is_next.ensures ∙ c.tests-test.false)

pub all_ands-returns-in_err-tests-clause-err : goal.all_ands-returns-in_err-tests-clause-err
all_ands-returns-in_err-tests-clause-err n c =
    passed c.from_residual.result (Stops some_ands c.args.bounds.now c.args.left.now) c.from_residual.ensures.1
    (series_fails Or cond_goes_on begins_nested good_and refl refl refl
    (fails_made and_of _ c.in_err-tests.ensures.err))

pub all_ands-returns-in_err-push-clause-err : goal.all_ands-returns-in_err-push-clause-err
all_ands-returns-in_err-push-clause-err n c =
    passed c.from_residual-in_err-push.result (Stops some_ands c.args.bounds.now c.args.left.now)
    c.from_residual-in_err-push.ensures.1 no_memory

pub all_ands-ands-init : goal.all_ands-ands-init
all_ands-ands-init n c =
    record {
      shorter = c.in_ok-tests.ensures.shorter;
      leads =
          leads_as (c.in_ok-push.ensures.ok ∙ ap (λ l. l ++ (and_of c.in_ok-tests.tests) ∷ []) c.new-all.ensures)
          (series_begun Or cond_goes_on begins_nested good_and refl refl refl
          (takes_made and_of c.in_ok-tests.ensures.ok));
    }

pub all_ands-returns-in_err-next-clause-err : goal.all_ands-returns-in_err-next-clause-err
all_ands-returns-in_err-next-clause-err n c =
    passed c.from_residual-in_err-next.result (Stops some_ands c.args.bounds.now c.args.left.now)
    c.from_residual-in_err-next.ensures.1
    (leads_stuck good_next_and (lists ors and_goes_on no_sign no_sign refl refl refl refl refl) c.ands.invariant.leads
    (sym c.is_next.ensures ∙ c.ands-test.true) _ c.in_err-next.ensures.err)

pub all_ands-returns-in_err-push-2-clause-err : goal.all_ands-returns-in_err-push-2-clause-err
all_ands-returns-in_err-push-2-clause-err n c =
    passed c.from_residual-in_err-push-2.result (Stops some_ands c.args.bounds.now c.args.left.now)
    c.from_residual-in_err-push-2.ensures.1 no_memory

pub all_ands-ands-preserved : goal.all_ands-ands-preserved
all_ands-ands-preserved n c =
    record {
      shorter = omega (arith, c.ands.invariant.shorter, c.in_ok-next.ensures.shorter);
      leads =
          leads_as c.in_ok-push-2.ensures.ok
          (leads_more good_next_and (lists ors and_goes_on no_sign no_sign refl refl refl refl refl)
          c.ands.invariant.leads _ _ (sym c.is_next.ensures ∙ c.ands-test.true) c.in_ok-next.ensures.ok);
    }

pub all_ands-returns-clause-ok : goal.all_ands-returns-clause-ok
all_ands-returns-clause-ok n c =
    leads_end good_next_and (lists ors and_goes_on no_sign no_sign refl refl refl refl refl) c.ands.invariant.leads
    (sym c.is_next.ensures ∙ c.ands-test.false)

pub another_test-returns-in_err-rest-clause-err : goal.another_test-returns-in_err-rest-clause-err
another_test-returns-in_err-rest-clause-err n c =
    passed c.from_residual.result (Stops next_test c.args.bounds.now c.args.left.now) c.from_residual.ensures.1
    (word_fails And refl good_test (least_test _) c.in_err-rest.ensures.err)

pub another_test-returns-in_err-test-clause-err : goal.another_test-returns-in_err-test-clause-err
another_test-returns-in_err-test-clause-err n c =
    passed c.from_residual-in_err-test.result (Stops next_test c.args.bounds.now c.args.left.now)
    c.from_residual-in_err-test.ensures.1
    (behind_fails And refl good_test c.in_ok-rest.ensures.ok c.in_err-test.ensures.err)

pub another_test-returns-clause-ok : goal.another_test-returns-clause-ok
another_test-returns-clause-ok n c =
    takes_behind And refl good_test c.in_ok-rest.ensures.ok c.in_ok-test.ensures.ok

pub another_and-returns-in_err-rest-clause-err : goal.another_and-returns-in_err-rest-clause-err
another_and-returns-in_err-rest-clause-err n c =
    passed c.from_residual.result (Stops next_and c.args.bounds.now c.args.left.now) c.from_residual.ensures.1
    (word_fails Or refl good_and (least_and _) c.in_err-rest.ensures.err)

pub another_and-returns-in_err-tests-clause-err : goal.another_and-returns-in_err-tests-clause-err
another_and-returns-in_err-tests-clause-err n c =
    passed c.from_residual-in_err-tests.result (Stops next_and c.args.bounds.now c.args.left.now)
    c.from_residual-in_err-tests.ensures.1
    (behind_fails Or refl good_and c.in_ok-rest.ensures.ok (fails_made and_of _ c.in_err-tests.ensures.err))

pub another_and-returns-clause-ok : goal.another_and-returns-clause-ok
another_and-returns-clause-ok n c =
    takes_behind Or refl good_and c.in_ok-rest.ensures.ok (takes_made and_of c.in_ok-tests.ensures.ok)

pub test-returns-then-begins_operand-clause-ok : goal.test-returns-then-begins_operand-clause-ok
test-returns-then-begins_operand-clause-ok n c =
    IfOk-weaker c.comparison.result (λ r. Reads a_comparison c.args.bounds.now c.args.left.now r.1.now r.0)
    (λ r. Reads a_test c.args.bounds.now c.args.left.now r.1.now r.0)
    (λ r t. test_compared_takes _ c.args.bounds.now.end _ _ _
    (sym (ap (λ s. begins_operand s) c.peek.ensures) ∙ sym c.begins_operand.ensures ∙ c.if-begins_operand.true) t)
    c.comparison.ensures.ok

pub test-returns-then-begins_operand-clause-err : goal.test-returns-then-begins_operand-clause-err
test-returns-then-begins_operand-clause-err n c =
    IfErr-weaker c.comparison.result (Stops a_comparison c.args.bounds.now c.args.left.now)
    (Stops a_test c.args.bounds.now c.args.left.now)
    (λ e f. test_compared_fails _ _ _ e
    (sym (ap (λ s. begins_operand s) c.peek.ensures) ∙ sym c.begins_operand.ensures ∙ c.if-begins_operand.true) f)
    c.comparison.ensures.err

pub test-returns-in_err-inner-clause-err : goal.test-returns-in_err-inner-clause-err
test-returns-in_err-inner-clause-err n c =
    passed c.from_residual.result (Stops a_test c.args.bounds.now c.args.left.now) c.from_residual.ensures.1
    (test_stays _ _ _ _ (sym (ap (λ s. begins_operand s) c.peek.ensures) ∙ sym c.begins_operand.ensures
    ∙ c.if-begins_operand.false) c.in_err-inner.ensures.err)

pub test-returns-in_err-unary-clause-err : goal.test-returns-in_err-unary-clause-err
test-returns-in_err-unary-clause-err n c =
    passed c.from_residual-in_err-unary.result (Stops a_test c.args.bounds.now c.args.left.now)
    c.from_residual-in_err-unary.ensures.1
    (test_nested_fails _ _ c.in_ok-inner.ensures.ok.1 _ _ _
    (sym (ap (λ s. begins_operand s) c.peek.ensures) ∙ sym c.begins_operand.ensures ∙ c.if-begins_operand.false)
    (subst
    (λ end. Fails an_inner_unary.rule operand_goes_on no_sign no_sign c.in_ok-inner.inner.room end c.args.left.now
    c.in_err-unary.field-0.0) c.in_ok-inner.ensures.ok.0 c.in_err-unary.ensures.err))

pub test-returns-clause-ok : goal.test-returns-clause-ok
test-returns-clause-ok n c =
    test_nested_takes _ _ c.in_ok-inner.ensures.ok.1 c.args.bounds.now.end _ _ _
    (sym (ap (λ s. begins_operand s) c.peek.ensures) ∙ sym c.begins_operand.ensures ∙ c.if-begins_operand.false)
    c.in_ok-unary.ensures.ok

pub unary-returns-in_err-operand-clause-err : goal.unary-returns-in_err-operand-clause-err
unary-returns-in_err-operand-clause-err n c =
    passed c.from_residual.result (Stops a_unary c.args.bounds.now c.args.left.now) c.from_residual.ensures.1
    (unary_operand_fails _ _ _ _
    (sym (ap (λ s. begins_operand s) c.peek.ensures) ∙ sym c.begins_operand.ensures ∙ c.if-begins_operand.true)
    c.in_err-operand.ensures.err)

pub unary-returns-then-begins_operand-clause-ok : goal.unary-returns-then-begins_operand-clause-ok
unary-returns-then-begins_operand-clause-ok n c =
    unary_operand_takes _ c.args.bounds.now.end _ _ _
    (sym (ap (λ s. begins_operand s) c.peek.ensures) ∙ sym c.begins_operand.ensures ∙ c.if-begins_operand.true)
    c.in_ok-operand.ensures.ok

pub unary-returns-in_err-inner-clause-err : goal.unary-returns-in_err-inner-clause-err
unary-returns-in_err-inner-clause-err n c =
    passed c.from_residual-in_err-inner.result (Stops a_unary c.args.bounds.now c.args.left.now)
    c.from_residual-in_err-inner.ensures.1
    (unary_stays _ _ _ _ (sym (ap (λ s. begins_operand s) c.peek.ensures) ∙ sym c.begins_operand.ensures
    ∙ c.if-begins_operand.false) c.in_err-inner.ensures.err)

pub unary-returns-in_err-unary-clause-err : goal.unary-returns-in_err-unary-clause-err
unary-returns-in_err-unary-clause-err n c =
    passed c.from_residual-in_err-unary.result (Stops a_unary c.args.bounds.now c.args.left.now)
    c.from_residual-in_err-unary.ensures.1
    (unary_nested_fails _ _ c.in_ok-inner.ensures.ok.1 _ _ _ c.in_ok-inner.ensures.ok.2
    (subst
    (λ end. Fails an_inner_unary.rule operand_goes_on no_sign no_sign c.in_ok-inner.inner.room end c.args.left.now
    c.in_err-unary.field-0.0) c.in_ok-inner.ensures.ok.0 c.in_err-unary.ensures.err))

pub unary-returns-clause-ok : goal.unary-returns-clause-ok
unary-returns-clause-ok n c =
    unary_nested_takes _ _ c.in_ok-inner.ensures.ok.1 c.args.bounds.now.end _ _ _ c.in_ok-inner.ensures.ok.2
    c.in_ok-unary.ensures.ok

pub nested-returns-in_err-unary-clause-err : goal.nested-returns-in_err-unary-clause-err
nested-returns-in_err-unary-clause-err n c =
    let t = c.in_ok-token.ensures.ok in
    passed c.from_residual-in_err-unary.result (Stops an_inner_unary c.args.bounds.now c.args.left.now)
    c.from_residual-in_err-unary.ensures.1
    (not_fails _ _ _ _ _ t.0 _ t.1 c.in_err-unary.ensures.err)

pub nested-returns-in_err-unary-2-clause-err : goal.nested-returns-in_err-unary-2-clause-err
nested-returns-in_err-unary-2-clause-err n c =
    passed c.from_residual-in_err-unary-2.result (Stops an_inner_unary c.args.bounds.now c.args.left.now)
    c.from_residual-in_err-unary-2.ensures.1 no_memory

pub nested-returns-clause-ok : goal.nested-returns-clause-ok
nested-returns-clause-ok n c =
    let t = c.in_ok-token.ensures.ok in
    subst
    (λ u. Takes an_inner_unary.rule operand_goes_on no_sign c.args.bounds.now.room c.args.left.now
    c.in_ok-unary.rest.now (unary'.Not c.in_ok-token.token.now.at u)) (sym c.in_ok-unary-2.ensures)
    (not_takes _ c.args.bounds.now.end _ _ _ t.0 _ _ t.1 c.in_ok-unary.ensures.ok)

pub brackets-returns-in_err-cond-clause-err : goal.brackets-returns-in_err-cond-clause-err
brackets-returns-in_err-cond-clause-err n c =
    let t = c.in_ok-token.ensures.ok in
    passed c.from_residual-in_err-cond.result (Stops an_inner_unary c.args.bounds.now c.args.left.now)
    c.from_residual-in_err-cond.ensures.1
    (bad_cond _ _ _ _ _ t.0 _ t.1 c.in_err-cond.ensures.err)

pub brackets-returns-in_err-rest-clause-err : goal.brackets-returns-in_err-rest-clause-err
brackets-returns-in_err-rest-clause-err n c =
    let t = c.in_ok-token.ensures.ok in
    let f = c.in_err-rest.ensures.err in
    passed c.from_residual-in_err-rest.result (Stops an_inner_unary c.args.bounds.now c.args.left.now)
    c.from_residual-in_err-rest.ensures.1
    (no_close _ _ _ _ _ t.0 _ _ _ t.1 c.in_ok-cond.ensures.ok f.0 f.1)

pub brackets-returns-clause-ok : goal.brackets-returns-clause-ok
brackets-returns-clause-ok n c =
    let t = c.in_ok-token.ensures.ok in
    let u = c.in_ok-rest.ensures.ok in
    brackets_take _ c.args.bounds.now.end _ _ _ t.0 _ _ _ _ t.1 c.in_ok-cond.ensures.ok u.0 u.1
