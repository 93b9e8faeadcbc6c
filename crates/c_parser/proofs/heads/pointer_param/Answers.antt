use Rattle.std.proofs.Common.{refl}
use Rattle.c_grammar.specs.Items as i
use Rattle.c_grammar.specs.declared.signs.Sign.TheVariants as sign
use Rattle.c_reader.specs.Bounds.{Stops}
use Rattle.c_parser.specs.inner.Shapes.{read_pointer_param}
use Rattle.c_grammar.proofs.Goods.{good_one, good_name}
use Rattle.c_grammar.proofs.Heads.{apart, same_apart}
use Rattle.c_grammar.proofs.Leasts.{least_name}
use Rattle.c_grammar.proofs.Parts.{takes_made, fails_made, takes_same, fails_same, takes_token}
use Rattle.c_grammar.proofs.Sequences.{least_one, least_pair}
use Rattle.c_grammar.proofs.Steps.{passed, pair, in_front, in_back, widen_takes, widen_fails, good_pair}
use Rattle.c_grammar.proofs.Tokens.{fails_one, takes_name, real}
use Rattle.c_statements.proofs.Words.{good_named}
use Rattle.c_parser.proofs.heads.pointer_param.Goals as goal

pub returns-in_err-head-clause-err : goal.returns-in_err-head-clause-err
returns-in_err-head-clause-err c =
    passed c.from_residual.result (Stops read_pointer_param c.args.bounds.now c.args.left.now) c.from_residual.ensures.1
    (fails_same (same_apart i.pointer_param_of) _
    (widen_fails _ _ _ refl refl refl
    (fails_made (apart i.pointer_param_of) _
    (in_front (good_named sign.Struct) (good_pair (good_one sign.Star) good_name refl) refl refl
    (least_pair (good_one sign.Star) good_name refl refl _ (least_one sign.Star (real sign.Star tt) _)
    (least_name _)) c.in_err-head.ensures.err))))

pub returns-in_err-rest-clause-err : goal.returns-in_err-rest-clause-err
returns-in_err-rest-clause-err c =
    passed c.from_residual-in_err-rest.result (Stops read_pointer_param c.args.bounds.now c.args.left.now)
    c.from_residual-in_err-rest.ensures.1
    (fails_same (same_apart i.pointer_param_of) _
    (widen_fails _ _ _ refl refl refl
    (fails_made (apart i.pointer_param_of) _
    (in_back (good_named sign.Struct) (good_pair (good_one sign.Star) good_name refl) refl refl refl
    c.in_ok-head.ensures.ok
    (in_front (good_one sign.Star) good_name refl refl (least_name _)
    (fails_one sign.Star (real sign.Star tt) _ _ _ _ c.in_err-rest.ensures.err.0 c.in_err-rest.ensures.err.1))))))

pub returns-in_err-name-clause-err : goal.returns-in_err-name-clause-err
returns-in_err-name-clause-err c =
    passed c.from_residual-in_err-name.result (Stops read_pointer_param c.args.bounds.now c.args.left.now)
    c.from_residual-in_err-name.ensures.1
    (fails_same (same_apart i.pointer_param_of) _
    (widen_fails _ _ _ refl refl refl
    (fails_made (apart i.pointer_param_of) _
    (in_back (good_named sign.Struct) (good_pair (good_one sign.Star) good_name refl) refl refl refl
    c.in_ok-head.ensures.ok
    (in_back (good_one sign.Star) good_name refl refl refl
    (takes_token sign.Star _ _ _ _ c.in_ok-rest.ensures.ok.0 c.in_ok-rest.ensures.ok.1)
    c.in_err-name.ensures.err)))))

pub returns-clause-ok : goal.returns-clause-ok
returns-clause-ok c = takes_same (same_apart i.pointer_param_of)
    (widen_takes _ _ refl refl
    (takes_made (apart i.pointer_param_of)
    (pair (good_named sign.Struct) (good_pair (good_one sign.Star) good_name refl) refl c.in_ok-head.ensures.ok
    (pair (good_one sign.Star) good_name refl
    (takes_token sign.Star _ _ _ _ c.in_ok-rest.ensures.ok.0 c.in_ok-rest.ensures.ok.1)
    (takes_name _ _ _ _ c.in_ok-name.ensures.ok)))))
