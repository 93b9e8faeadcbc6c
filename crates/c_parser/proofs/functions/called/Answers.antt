use Rattle.std.proofs.Common.{refl, sym, ap}
use Rattle.c_grammar.specs.words.Parted.{Called, head_item}
use Rattle.c_reader.specs.Bounds.{Stops}
use Rattle.c_parser.specs.inner.Shapes.{read_called}
use Rattle.c_grammar.proofs.ItemLeasts.{least_ending}
use Rattle.c_grammar.proofs.Items.{good_closed_params, good_ending}
use Rattle.c_grammar.proofs.Parts.{takes_made, fails_made}
use Rattle.c_grammar.proofs.Sequences.{takes_as}
use Rattle.c_grammar.proofs.Steps.{passed, pair, in_front, in_back, widen_takes, widen_fails}
use Rattle.c_parser.proofs.functions.called.Goals as goal

pub returns-in_err-params-clause-err : goal.returns-in_err-params-clause-err
returns-in_err-params-clause-err c =
    passed c.from_residual.result (Stops (read_called c.args.gives c.args.name) c.args.bounds.now c.args.left.now)
    c.from_residual.ensures.1
    (widen_fails _ _ _ refl refl refl
    (fails_made (λ (q : Called). head_item c.args.gives c.args.name q) _
    (in_front good_closed_params good_ending refl refl (least_ending _) c.in_err-params.ensures.err)))

pub returns-in_err-ending-clause-err : goal.returns-in_err-ending-clause-err
returns-in_err-ending-clause-err c =
    passed c.from_residual-in_err-ending.result (Stops (read_called c.args.gives c.args.name) c.args.bounds.now
    c.args.left.now) c.from_residual-in_err-ending.ensures.1
    (widen_fails _ _ _ refl refl refl
    (fails_made (λ (q : Called). head_item c.args.gives c.args.name q) _
    (in_back good_closed_params good_ending refl refl refl c.in_ok-params.ensures.ok c.in_err-ending.ensures.err)))

pub returns-in-Some-clause-ok : goal.returns-in-Some-clause-ok
returns-in-Some-clause-ok c = takes_as _
    (sym (ap (λ e. head_item c.args.gives c.args.name (c.in_ok-params.params, e)) c.in-Some.is))
    (widen_takes _ _ refl refl
    (takes_made (λ (q : Called). head_item c.args.gives c.args.name q)
    (pair good_closed_params good_ending refl c.in_ok-params.ensures.ok c.in_ok-ending.ensures.ok)))

pub returns-in-None-clause-ok : goal.returns-in-None-clause-ok
returns-in-None-clause-ok c = takes_as _
    (sym (ap (λ e. head_item c.args.gives c.args.name (c.in_ok-params.params, e)) c.in-None.is))
    (widen_takes _ _ refl refl
    (takes_made (λ (q : Called). head_item c.args.gives c.args.name q)
    (pair good_closed_params good_ending refl c.in_ok-params.ensures.ok c.in_ok-ending.ensures.ok)))
