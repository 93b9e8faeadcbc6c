use Rattle.std.proofs.Common.{Some, None, refl, sym, ap, ◌∙◌}
use Rattle.c_grammar.specs.words.Sets.{no_sign, operand_goes_on, begins_operand}
use Rattle.c_reader.specs.Bounds.{Stops}
use Rattle.c_statements.specs.Shapes.{read_maybe_operand}
use Rattle.c_grammar.proofs.Choices.{left_takes, right_takes, left_fails}
use Rattle.c_grammar.proofs.Goods.{named, good_operand}
use Rattle.c_grammar.proofs.Parts.{takes_made, fails_made, takes_nothing, good_made, good_nothing}
use Rattle.c_grammar.proofs.Steps.{passed, widen_takes, widen_fails}
use Rattle.c_statements.proofs.flat.maybe_operand.Goals as goal

pub returns-in_err-operand-clause-err : goal.returns-in_err-operand-clause-err
returns-in_err-operand-clause-err c =
    passed c.from_residual.result (Stops read_maybe_operand c.args.bounds.now c.args.left.now) c.from_residual.ensures.1
    (widen_fails _ _ _ refl refl refl
    (left_fails (good_made (named begins_operand operand_goes_on no_sign good_operand refl refl refl) Some)
    (good_nothing None) refl refl
    (sym (ap (λ s. begins_operand s) c.peek.ensures) ∙ sym c.begins_operand.ensures ∙ c.if-begins_operand.true)
    (fails_made Some _ c.in_err-operand.ensures.err)))

pub returns-then-begins_operand-clause-ok : goal.returns-then-begins_operand-clause-ok
returns-then-begins_operand-clause-ok c =
    widen_takes _ _ refl refl
    (left_takes (good_made (named begins_operand operand_goes_on no_sign good_operand refl refl refl) Some)
    (good_nothing None) refl refl
    (sym (ap (λ s. begins_operand s) c.peek.ensures) ∙ sym c.begins_operand.ensures ∙ c.if-begins_operand.true)
    (takes_made Some c.in_ok-operand.ensures.ok))

pub returns-clause-ok : goal.returns-clause-ok
returns-clause-ok c = widen_takes _ _ refl refl
    (right_takes (good_made (named begins_operand operand_goes_on no_sign good_operand refl refl refl) Some)
    (good_nothing None) refl refl refl
    (sym (ap (λ s. begins_operand s) c.peek.ensures) ∙ sym c.begins_operand.ensures ∙ c.if-begins_operand.false)
    (takes_nothing None _ _))
