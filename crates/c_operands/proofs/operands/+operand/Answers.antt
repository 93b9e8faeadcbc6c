use Rattle.std.proofs.Common.{true, ◌∙◌, sym, ap, subst, ◌++◌, ◌∷◌, [], refl, inr}
use Rattle.std.proofs.lemmas.Result.{IfOk-weaker, IfErr-weaker}
use Rattle.c_grammar.specs.words.Faults.{Takes, Fails}
use Rattle.c_grammar.specs.words.Faults.Fails.{no_memory}
use Rattle.c_grammar.specs.words.Sets.{begins_operand, commas, opens, operand_goes_on, arguments_go_on, no_sign}
use Rattle.c_reader.specs.Bounds.{Stops, Reads}
use Rattle.c_grammar.specs.words.Shapes.{an_argument, a_literal, all_arguments, some_arguments, next_argument}
use Rattle.c_grammar.specs.Syntax.{middle}
use Rattle.c_grammar.specs.declared.signs.Sign.TheVariants.{Comma, Open, Close}
use Rattle.c_grammar.proofs.Closings.{Enclosed, closed, enclosed, outer_fails, inner_fails, end_fails, takes_enclosed}
use Rattle.c_grammar.proofs.Families.{one}
use Rattle.c_grammar.proofs.Goods.{good_one, good_next, good_argument, good_some_operands}
use Rattle.c_grammar.proofs.Lists.{lists, leads_more, leads_end, leads_stuck, takes_length, leads_as}
use Rattle.c_grammar.proofs.Operands.{least_argument, none_there, bad_first, begun, takes_literal, fails_literal}
use Rattle.c_grammar.proofs.Operands.{no_name, bad_arrows, path_there, bad_call, call_there, deep_call, deeper_fails}
use Rattle.c_grammar.proofs.Operands.{deeper_takes, good_inner, same_argument}
use Rattle.c_grammar.proofs.Series.{word_fails, behind_fails, takes_behind}
use Rattle.c_grammar.proofs.Tokens.{fails_token, reads_token, real}
use Rattle.c_grammar.proofs.Steps.{passed}
use Rattle.c_operands.proofs.operands.«+operand».Goals as goal

brackets : Enclosed (one Open) opens some_arguments.rule begins_operand arguments_go_on no_sign true Close no_sign
brackets = enclosed (good_one Open) (closed (good_some_operands good_argument) (real Close tt) refl refl refl)
    (λ n. record { more = []; tree = []; reads = λ y h. inr (refl, refl) }) refl refl refl refl

pub arguments-returns-in_err-rest-clause-err : goal.arguments-returns-in_err-rest-clause-err
arguments-returns-in_err-rest-clause-err n c =
    passed c.from_residual.result (Stops all_arguments c.args.bounds.now c.args.left.now) c.from_residual.ensures.1
    (outer_fails brackets middle (fails_token Open (real Open tt) c.in_err-rest.ensures.err))

pub arguments-returns-in_err-operands-clause-err : goal.arguments-returns-in_err-operands-clause-err
arguments-returns-in_err-operands-clause-err n c =
    passed c.from_residual-in_err-operands.result (Stops all_arguments c.args.bounds.now c.args.left.now)
    c.from_residual-in_err-operands.ensures.1
    (inner_fails brackets middle refl (reads_token Open c.in_ok-rest.ensures.ok) c.in_err-operands.ensures.err)

pub arguments-returns-in_err-rest-2-clause-err : goal.arguments-returns-in_err-rest-2-clause-err
arguments-returns-in_err-rest-2-clause-err n c =
    passed c.from_residual-in_err-rest-2.result (Stops all_arguments c.args.bounds.now c.args.left.now)
    c.from_residual-in_err-rest-2.ensures.1
    (end_fails brackets middle (reads_token Open c.in_ok-rest.ensures.ok) c.in_ok-operands.ensures.ok
    c.in_err-rest-2.ensures.err)

pub arguments-returns-clause-ok : goal.arguments-returns-clause-ok
arguments-returns-clause-ok n c =
    takes_enclosed brackets middle (reads_token Open c.in_ok-rest.ensures.ok) c.in_ok-operands.ensures.ok
    c.in_ok-rest-2.ensures.ok

pub some_operands-returns-then-not-begins_operand-clause-ok :
    goal.some_operands-returns-then-not-begins_operand-clause-ok
some_operands-returns-then-not-begins_operand-clause-ok n c =
    subst
    (λ l. Takes some_arguments.rule arguments_go_on no_sign c.args.bounds.now.room c.args.left.now c.args.left.now
    l) (sym c.new.ensures)
    (none_there _ _ (sym (ap (λ s. begins_operand s) c.peek.ensures) ∙ sym c.begins_operand.ensures
    ∙ c.if-not-begins_operand.true))

pub next_operand-returns-in_err-rest-clause-err : goal.next_operand-returns-in_err-rest-clause-err
next_operand-returns-in_err-rest-clause-err n c =
    passed c.from_residual.result (Stops next_argument c.args.bounds.now c.args.left.now) c.from_residual.ensures.1
    (word_fails Comma refl good_argument (least_argument _) c.in_err-rest.ensures.err)

pub next_operand-returns-in_err-operand-clause-err : goal.next_operand-returns-in_err-operand-clause-err
next_operand-returns-in_err-operand-clause-err n c =
    passed c.from_residual-in_err-operand.result (Stops next_argument c.args.bounds.now c.args.left.now)
    c.from_residual-in_err-operand.ensures.1
    (behind_fails Comma refl good_argument c.in_ok-rest.ensures.ok c.in_err-operand.ensures.err)

pub next_operand-returns-clause-ok : goal.next_operand-returns-clause-ok
next_operand-returns-clause-ok n c =
    takes_behind Comma refl good_argument c.in_ok-rest.ensures.ok c.in_ok-operand.ensures.ok

pub some_operands-returns-in_err-first-clause-err : goal.some_operands-returns-in_err-first-clause-err
some_operands-returns-in_err-first-clause-err n c =
    passed c.from_residual.result (Stops some_arguments c.args.bounds.now c.args.left.now) c.from_residual.ensures.1
    (bad_first _ _ _ _ (sym (ap (λ s. begins_operand s) c.peek.ensures) ∙ sym c.begins_operand.ensures
    ∙ c.if-not-begins_operand.false) c.in_err-first.ensures.err)

pub some_operands-returns-in_err-push-clause-err : goal.some_operands-returns-in_err-push-clause-err
some_operands-returns-in_err-push-clause-err n c =
    passed c.from_residual-in_err-push.result (Stops some_arguments c.args.bounds.now c.args.left.now)
    c.from_residual-in_err-push.ensures.1 no_memory

pub some_operands-operands-init : goal.some_operands-operands-init
some_operands-operands-init n c =
    leads_as (c.in_ok-push.ensures.ok ∙ ap (λ l. l ++ c.in_ok-first.first ∷ []) c.new-all.ensures)
    (begun _ _ _ _ _ (sym (ap (λ s. begins_operand s) c.peek.ensures) ∙ sym c.begins_operand.ensures
    ∙ c.if-not-begins_operand.false) c.in_ok-first.ensures.ok)

pub some_operands-returns-in_err-next-clause-err : goal.some_operands-returns-in_err-next-clause-err
some_operands-returns-in_err-next-clause-err n c =
    passed c.from_residual-in_err-next.result (Stops some_arguments c.args.bounds.now c.args.left.now)
    c.from_residual-in_err-next.ensures.1
    (leads_stuck (good_next Comma good_argument)
    (lists commas operand_goes_on no_sign no_sign refl refl refl refl refl) c.operands.invariant
    (sym c.is_next.ensures ∙ c.operands-test.true) _ c.in_err-next.ensures.err)

pub some_operands-returns-in_err-push-2-clause-err : goal.some_operands-returns-in_err-push-2-clause-err
some_operands-returns-in_err-push-2-clause-err n c =
    passed c.from_residual-in_err-push-2.result (Stops some_arguments c.args.bounds.now c.args.left.now)
    c.from_residual-in_err-push-2.ensures.1 no_memory

pub some_operands-operands-preserved : goal.some_operands-operands-preserved
some_operands-operands-preserved n c =
    leads_as c.in_ok-push-2.ensures.ok
    (leads_more (good_next Comma good_argument)
    (lists commas operand_goes_on no_sign no_sign refl refl refl refl refl) c.operands.invariant _ _
    (sym c.is_next.ensures ∙ c.operands-test.true) c.in_ok-next.ensures.ok)

pub some_operands-returns-clause-ok : goal.some_operands-returns-clause-ok
some_operands-returns-clause-ok n c =
    leads_end (good_next Comma good_argument) (lists commas operand_goes_on no_sign no_sign refl refl refl refl refl)
    c.operands.invariant (sym c.is_next.ensures ∙ c.operands-test.false)

pub some_operands-returns-clause-shorter : goal.some_operands-returns-clause-shorter
some_operands-returns-clause-shorter n c =
    takes_length
    (leads_end (good_next Comma good_argument) (lists commas operand_goes_on no_sign no_sign refl refl refl refl refl)
    c.operands.invariant (sym c.is_next.ensures ∙ c.operands-test.false))

pub argument-returns-then-not-is_next-clause-ok : goal.argument-returns-then-not-is_next-clause-ok
argument-returns-then-not-is_next-clause-ok n c =
    IfOk-weaker c.literal.result (λ r. Reads a_literal c.args.bounds.now c.args.left.now r.1.now r.0)
    (λ r. Reads an_argument c.args.bounds.now c.args.left.now r.1.now r.0)
    (λ r t. takes_literal good_inner same_argument _ c.args.bounds.now.end _ _ _
    (sym c.is_next.ensures ∙ c.if-not-is_next.true) t) c.literal.ensures.ok

pub argument-returns-then-not-is_next-clause-err : goal.argument-returns-then-not-is_next-clause-err
argument-returns-then-not-is_next-clause-err n c =
    IfErr-weaker c.literal.result (Stops a_literal c.args.bounds.now c.args.left.now)
    (Stops an_argument c.args.bounds.now c.args.left.now)
    (λ e f. fails_literal good_inner same_argument _ _ _ e (sym c.is_next.ensures ∙ c.if-not-is_next.true) f)
    c.literal.ensures.err

pub argument-returns-in_err-name-clause-err : goal.argument-returns-in_err-name-clause-err
argument-returns-in_err-name-clause-err n c =
    passed c.from_residual.result (Stops an_argument c.args.bounds.now c.args.left.now) c.from_residual.ensures.1
    (no_name good_inner same_argument _ _ _ _ (sym c.is_next.ensures ∙ c.if-not-is_next.false)
    c.in_err-name.ensures.err)

pub argument-returns-in_err-arrows-clause-err : goal.argument-returns-in_err-arrows-clause-err
argument-returns-in_err-arrows-clause-err n c =
    passed c.from_residual-in_err-arrows.result (Stops an_argument c.args.bounds.now c.args.left.now)
    c.from_residual-in_err-arrows.ensures.1
    (bad_arrows good_inner same_argument _ _ _ _ _ (sym c.is_next.ensures ∙ c.if-not-is_next.false)
    c.in_ok-name.ensures.ok _ (sym c.is_next-2.ensures ∙ c.if-not-is_next-2.true) c.in_err-arrows.ensures.err)

pub argument-returns-then-not-is_next-2-clause-ok : goal.argument-returns-then-not-is_next-2-clause-ok
argument-returns-then-not-is_next-2-clause-ok n c =
    path_there good_inner same_argument _ c.args.bounds.now.end _ _ _ (sym c.is_next.ensures ∙ c.if-not-is_next.false)
    c.in_ok-name.ensures.ok _ _ (sym c.is_next-2.ensures ∙ c.if-not-is_next-2.true) c.in_ok-arrows.ensures.ok

pub argument-returns-then-is_full-clause-err : goal.argument-returns-then-is_full-clause-err
argument-returns-then-is_full-clause-err n c =
    deep_call _ _ _ _ _ (c.is_full.ensures.0 c.if-is_full.true) c.in_ok-name.ensures.ok
    (sym c.is_next-2.ensures ∙ c.if-not-is_next-2.false)

pub argument-returns-in_err-operands-clause-err : goal.argument-returns-in_err-operands-clause-err
argument-returns-in_err-operands-clause-err n c =
    passed c.from_residual-in_err-operands.result (Stops an_argument c.args.bounds.now c.args.left.now)
    c.from_residual-in_err-operands.ensures.1
    (bad_call good_inner same_argument _ _ _ _ _ (sym c.is_next.ensures ∙ c.if-not-is_next.false)
    c.in_ok-name.ensures.ok _ (sym c.is_next-2.ensures ∙ c.if-not-is_next-2.false)
    (deeper_fails _ c.deeper-inner.result.room c.deeper-inner.ensures.room _ _ _
    (subst
    (λ end. Fails all_arguments.rule no_sign no_sign no_sign c.deeper-inner.result.room end c.in_ok-name.rest.now
    c.in_err-operands.field-0.0) c.deeper-inner.ensures.end c.in_err-operands.ensures.err)))

pub argument-returns-clause-ok : goal.argument-returns-clause-ok
argument-returns-clause-ok n c =
    call_there good_inner same_argument _ c.args.bounds.now.end _ _ _ (sym c.is_next.ensures ∙ c.if-not-is_next.false)
    c.in_ok-name.ensures.ok _ _ (sym c.is_next-2.ensures ∙ c.if-not-is_next-2.false)
    (deeper_takes _ c.deeper-inner.result.room c.deeper-inner.ensures.room _ _ _ c.in_ok-operands.ensures.ok)
