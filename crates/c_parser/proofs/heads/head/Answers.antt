use Rattle.std.proofs.Common.{refl}
use Rattle.c_grammar.specs.Items as i
use Rattle.c_reader.specs.Bounds.{Stops}
use Rattle.c_parser.specs.inner.Shapes.{read_head}
use Rattle.c_grammar.proofs.Goods.{good_name}
use Rattle.c_grammar.proofs.Items.{good_closed_params, good_maybe_params, good_rtype}
use Rattle.c_grammar.proofs.Leasts.{least_name, least_absent}
use Rattle.c_grammar.proofs.Parts.{takes_made, fails_made}
use Rattle.c_grammar.proofs.Sequences.{least_pair, least_bracketed}
use Rattle.c_grammar.proofs.Steps.{passed, pair, in_front, in_back, widen_takes, widen_fails, good_pair}
use Rattle.c_grammar.proofs.Tokens.{takes_name}
use Rattle.c_parser.proofs.heads.head.Goals as goal

pub returns-in_err-gives-clause-err : goal.returns-in_err-gives-clause-err
returns-in_err-gives-clause-err c =
    passed c.from_residual.result (Stops read_head c.args.bounds.now c.args.left.now) c.from_residual.ensures.1
    (widen_fails _ _ _ refl refl refl
    (fails_made i.head_of _
    (in_front good_rtype (good_pair good_name good_closed_params refl) refl refl
    (least_pair good_name good_closed_params refl refl _ (least_name _)
    (least_bracketed good_maybe_params refl _ (least_absent _))) c.in_err-gives.ensures.err)))

pub returns-in_err-name-clause-err : goal.returns-in_err-name-clause-err
returns-in_err-name-clause-err c =
    passed c.from_residual-in_err-name.result (Stops read_head c.args.bounds.now c.args.left.now)
    c.from_residual-in_err-name.ensures.1
    (widen_fails _ _ _ refl refl refl
    (fails_made i.head_of _
    (in_back good_rtype (good_pair good_name good_closed_params refl) refl refl refl c.in_ok-gives.ensures.ok
    (in_front good_name good_closed_params refl refl
    (least_bracketed good_maybe_params refl _ (least_absent _)) c.in_err-name.ensures.err))))

pub returns-in_err-params-clause-err : goal.returns-in_err-params-clause-err
returns-in_err-params-clause-err c =
    passed c.from_residual-in_err-params.result (Stops read_head c.args.bounds.now c.args.left.now)
    c.from_residual-in_err-params.ensures.1
    (widen_fails _ _ _ refl refl refl
    (fails_made i.head_of _
    (in_back good_rtype (good_pair good_name good_closed_params refl) refl refl refl c.in_ok-gives.ensures.ok
    (in_back good_name good_closed_params refl refl refl (takes_name _ _ _ _ c.in_ok-name.ensures.ok)
    c.in_err-params.ensures.err))))

pub returns-clause-ok : goal.returns-clause-ok
returns-clause-ok c = widen_takes _ _ refl refl
    (takes_made i.head_of
    (pair good_rtype (good_pair good_name good_closed_params refl) refl c.in_ok-gives.ensures.ok
    (pair good_name good_closed_params refl (takes_name _ _ _ _ c.in_ok-name.ensures.ok) c.in_ok-params.ensures.ok)))
