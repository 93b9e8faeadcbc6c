use Rattle.std.proofs.Common.{◌∙◌, sym, ap}
use Rattle.c_grammar.specs.words.Sets.{equals}
use Rattle.c_reader.specs.Bounds.{Stops}
use Rattle.c_grammar.specs.words.Shapes.{a_comparison}
use Rattle.c_grammar.proofs.Conditions.{bad_left, alone, bad_sides, bad_right, compared}
use Rattle.c_grammar.proofs.Steps.{passed}
use Rattle.c_operands.proofs.conditions.comparison.Goals as goal

pub returns-in_err-first-clause-err : goal.returns-in_err-first-clause-err
returns-in_err-first-clause-err c =
    passed c.from_residual.result (Stops a_comparison c.args.bounds.now c.args.left.now) c.from_residual.ensures.1
    (bad_left _ _ _ _ c.in_err-first.ensures.err)

pub returns-then-not-begins_side-clause-ok : goal.returns-then-not-begins_side-clause-ok
returns-then-not-begins_side-clause-ok c =
    alone _ c.args.bounds.now.end _ _ _ c.in_ok-first.ensures.ok
    (sym (ap (λ s. equals s) c.peek.ensures) ∙ sym c.begins_side.ensures ∙ c.if-not-begins_side.true)

pub returns-in_err-equal-clause-err : goal.returns-in_err-equal-clause-err
returns-in_err-equal-clause-err c =
    passed c.from_residual-in_err-equal.result (Stops a_comparison c.args.bounds.now c.args.left.now)
    c.from_residual-in_err-equal.ensures.1
    (bad_sides _ _ _ _ _ c.in_ok-first.ensures.ok _
    (sym (ap (λ s. equals s) c.peek.ensures) ∙ sym c.begins_side.ensures ∙ c.if-not-begins_side.false)
    c.in_err-equal.ensures.err)

pub returns-in_err-right-clause-err : goal.returns-in_err-right-clause-err
returns-in_err-right-clause-err c =
    passed c.from_residual-in_err-right.result (Stops a_comparison c.args.bounds.now c.args.left.now)
    c.from_residual-in_err-right.ensures.1
    (bad_right _ _ _ _ _ c.in_ok-first.ensures.ok _ _ _
    (sym (ap (λ s. equals s) c.peek.ensures) ∙ sym c.begins_side.ensures ∙ c.if-not-begins_side.false)
    c.in_ok-equal.ensures.ok c.in_err-right.ensures.err)

pub returns-clause-ok : goal.returns-clause-ok
returns-clause-ok c = compared _ c.args.bounds.now.end _ _ _ c.in_ok-first.ensures.ok _ _ _ _
    (sym (ap (λ s. equals s) c.peek.ensures) ∙ sym c.begins_side.ensures ∙ c.if-not-begins_side.false)
    c.in_ok-equal.ensures.ok c.in_ok-right.ensures.ok
