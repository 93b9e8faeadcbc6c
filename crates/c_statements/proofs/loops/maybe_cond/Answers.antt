use Rattle.std.proofs.Common.{Some, None, refl, sym, ap, ◌∙◌}
use Rattle.c_grammar.specs.words.Sets.{no_sign, cond_goes_on, begins_cond}
use Rattle.c_reader.specs.Bounds.{Stops}
use Rattle.c_statements.specs.Shapes.{read_maybe_cond}
use Rattle.c_grammar.proofs.Choices.{left_takes, right_takes, left_fails}
use Rattle.c_grammar.proofs.Goods.{named}
use Rattle.c_grammar.proofs.Parts.{takes_made, fails_made, takes_nothing, good_made, good_nothing}
use Rattle.c_grammar.proofs.Statements.{good_cond}
use Rattle.c_grammar.proofs.Steps.{passed, widen_takes, widen_fails}
use Rattle.c_statements.proofs.loops.maybe_cond.Goals as goal

pub returns-in_err-cond-clause-err : goal.returns-in_err-cond-clause-err
returns-in_err-cond-clause-err c =
    passed c.from_residual.result (Stops read_maybe_cond c.args.bounds.now c.args.left.now) c.from_residual.ensures.1
    (widen_fails _ _ _ refl refl refl
    (left_fails (good_made (named begins_cond cond_goes_on no_sign good_cond refl refl refl) Some)
    (good_nothing None) refl refl
    (sym (ap (λ s. begins_cond s) c.peek.ensures) ∙ sym c.begins_cond.ensures ∙ c.if-begins_cond.true)
    (fails_made Some _ c.in_err-cond.ensures.err)))

pub returns-then-begins_cond-clause-ok : goal.returns-then-begins_cond-clause-ok
returns-then-begins_cond-clause-ok c =
    widen_takes _ _ refl refl
    (left_takes (good_made (named begins_cond cond_goes_on no_sign good_cond refl refl refl) Some) (good_nothing None)
    refl refl (sym (ap (λ s. begins_cond s) c.peek.ensures) ∙ sym c.begins_cond.ensures ∙ c.if-begins_cond.true)
    (takes_made Some c.in_ok-cond.ensures.ok))

pub returns-clause-ok : goal.returns-clause-ok
returns-clause-ok c = widen_takes _ _ refl refl
    (right_takes (good_made (named begins_cond cond_goes_on no_sign good_cond refl refl refl) Some) (good_nothing None)
    refl refl refl (sym (ap (λ s. begins_cond s) c.peek.ensures) ∙ sym c.begins_cond.ensures ∙ c.if-begins_cond.false)
    (takes_nothing None _ _))
