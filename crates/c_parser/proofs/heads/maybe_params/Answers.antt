use Rattle.std.proofs.Common.{Some, None, refl, sym, ap, ◌∙◌}
use Rattle.c_grammar.specs.words.Parted.{begins_params}
use Rattle.c_grammar.specs.words.Sets.{no_sign, commas}
use Rattle.c_reader.specs.Bounds.{Stops}
use Rattle.c_parser.specs.inner.Shapes.{read_maybe_params}
use Rattle.c_grammar.proofs.Choices.{left_takes, right_takes, left_fails}
use Rattle.c_grammar.proofs.Goods.{named}
use Rattle.c_grammar.proofs.Items.{good_params}
use Rattle.c_grammar.proofs.Parts.{takes_made, fails_made, takes_nothing, good_made, good_nothing}
use Rattle.c_grammar.proofs.Steps.{passed, widen_takes, widen_fails}
use Rattle.c_parser.proofs.heads.maybe_params.Goals as goal

pub returns-in_err-params-clause-err : goal.returns-in_err-params-clause-err
returns-in_err-params-clause-err c =
    passed c.from_residual.result (Stops read_maybe_params c.args.bounds.now c.args.left.now) c.from_residual.ensures.1
    (widen_fails _ _ _ refl refl refl
    (left_fails (good_made (named begins_params commas no_sign good_params refl refl refl) Some) (good_nothing None)
    refl refl (sym (ap (λ s. begins_params s) c.peek.ensures) ∙ sym c.begins_params.ensures
    ∙ c.if-begins_params.true) (fails_made Some _ c.in_err-params.ensures.err)))

pub returns-then-begins_params-clause-ok : goal.returns-then-begins_params-clause-ok
returns-then-begins_params-clause-ok c =
    widen_takes _ _ refl refl
    (left_takes (good_made (named begins_params commas no_sign good_params refl refl refl) Some) (good_nothing None)
    refl refl (sym (ap (λ s. begins_params s) c.peek.ensures) ∙ sym c.begins_params.ensures ∙ c.if-begins_params.true)
    (takes_made Some c.in_ok-params.ensures.ok))

pub returns-clause-ok : goal.returns-clause-ok
returns-clause-ok c = widen_takes _ _ refl refl
    (right_takes (good_made (named begins_params commas no_sign good_params refl refl refl) Some) (good_nothing None)
    refl refl refl (sym (ap (λ s. begins_params s) c.peek.ensures) ∙ sym c.begins_params.ensures
    ∙ c.if-begins_params.false) (takes_nothing None _ _))
