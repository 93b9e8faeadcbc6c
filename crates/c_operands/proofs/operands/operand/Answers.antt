use Rattle.std.proofs.Common.{◌∙◌, sym}
use Rattle.std.proofs.lemmas.Result.{IfOk-weaker, IfErr-weaker}
use Rattle.c_reader.specs.Bounds.{Stops, Reads}
use Rattle.c_grammar.specs.words.Shapes.{an_operand, a_literal}
use Rattle.c_grammar.proofs.Goods.{good_argument, good_arguments, same_operand}
use Rattle.c_grammar.proofs.Operands.{takes_literal, fails_literal, no_name, bad_arrows, path_there, bad_call}
use Rattle.c_grammar.proofs.Operands.{call_there}
use Rattle.c_grammar.proofs.Steps.{passed}
use Rattle.c_operands.proofs.operands.operand.Goals as goal

pub returns-then-not-is_next-clause-ok : goal.returns-then-not-is_next-clause-ok
returns-then-not-is_next-clause-ok c =
    IfOk-weaker c.literal.result (λ r. Reads a_literal c.args.bounds.now c.args.left.now r.1.now r.0)
    (λ r. Reads an_operand c.args.bounds.now c.args.left.now r.1.now r.0)
    (λ r t. takes_literal (good_arguments good_argument) same_operand _ c.args.bounds.now.end _ _ _
    (sym c.is_next.ensures ∙ c.if-not-is_next.true) t) c.literal.ensures.ok

pub returns-then-not-is_next-clause-err : goal.returns-then-not-is_next-clause-err
returns-then-not-is_next-clause-err c =
    IfErr-weaker c.literal.result (Stops a_literal c.args.bounds.now c.args.left.now)
    (Stops an_operand c.args.bounds.now c.args.left.now)
    (λ e f. fails_literal (good_arguments good_argument) same_operand _ _ _ e
    (sym c.is_next.ensures ∙ c.if-not-is_next.true) f) c.literal.ensures.err

pub returns-in_err-name-clause-err : goal.returns-in_err-name-clause-err
returns-in_err-name-clause-err c =
    passed c.from_residual.result (Stops an_operand c.args.bounds.now c.args.left.now) c.from_residual.ensures.1
    (no_name (good_arguments good_argument) same_operand _ _ _ _ (sym c.is_next.ensures ∙ c.if-not-is_next.false)
    c.in_err-name.ensures.err)

pub returns-in_err-arrows-clause-err : goal.returns-in_err-arrows-clause-err
returns-in_err-arrows-clause-err c =
    passed c.from_residual-in_err-arrows.result (Stops an_operand c.args.bounds.now c.args.left.now)
    c.from_residual-in_err-arrows.ensures.1
    (bad_arrows (good_arguments good_argument) same_operand _ _ _ _ _ (sym c.is_next.ensures ∙ c.if-not-is_next.false)
    c.in_ok-name.ensures.ok _ (sym c.is_next-2.ensures ∙ c.if-not-is_next-2.true) c.in_err-arrows.ensures.err)

pub returns-then-not-is_next-2-clause-ok : goal.returns-then-not-is_next-2-clause-ok
returns-then-not-is_next-2-clause-ok c =
    path_there (good_arguments good_argument) same_operand _ c.args.bounds.now.end _ _ _
    (sym c.is_next.ensures ∙ c.if-not-is_next.false) c.in_ok-name.ensures.ok _ _
    (sym c.is_next-2.ensures ∙ c.if-not-is_next-2.true) c.in_ok-arrows.ensures.ok

pub returns-in_err-operands-clause-err : goal.returns-in_err-operands-clause-err
returns-in_err-operands-clause-err c =
    passed c.from_residual-in_err-operands.result (Stops an_operand c.args.bounds.now c.args.left.now)
    c.from_residual-in_err-operands.ensures.1
    (bad_call (good_arguments good_argument) same_operand _ _ _ _ _ (sym c.is_next.ensures ∙ c.if-not-is_next.false)
    c.in_ok-name.ensures.ok _ (sym c.is_next-2.ensures ∙ c.if-not-is_next-2.false) c.in_err-operands.ensures.err)

pub returns-clause-ok : goal.returns-clause-ok
returns-clause-ok c = call_there (good_arguments good_argument) same_operand _ c.args.bounds.now.end _ _ _
    (sym c.is_next.ensures ∙ c.if-not-is_next.false) c.in_ok-name.ensures.ok _ _
    (sym c.is_next-2.ensures ∙ c.if-not-is_next-2.false) c.in_ok-operands.ensures.ok
