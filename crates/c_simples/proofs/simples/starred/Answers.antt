use Rattle.std.proofs.Common.{refl}
use Rattle.c_grammar.specs.declared.signs.Sign.TheVariants as sign
use Rattle.c_reader.specs.Bounds.{Stops}
use Rattle.c_simples.specs.Shapes.{read_starred}
use Rattle.c_grammar.proofs.Goods.{good_at, good_path}
use Rattle.c_grammar.proofs.Leasts.{least_path}
use Rattle.c_grammar.proofs.Steps.{passed, pair, in_front, in_back, widen_takes, widen_fails}
use Rattle.c_grammar.proofs.Tokens.{fails_at, reads_at, real}
use Rattle.c_simples.proofs.simples.starred.Goals as goal

pub returns-in_err-star-clause-err : goal.returns-in_err-star-clause-err
returns-in_err-star-clause-err c =
    passed c.from_residual.result (Stops read_starred c.args.bounds.now c.args.left.now) c.from_residual.ensures.1
    (widen_fails _ _ _ refl refl refl
    (in_front (good_at sign.Star) good_path refl refl (least_path _)
    (fails_at sign.Star (real sign.Star tt) c.in_err-star.ensures.err)))

pub returns-in_err-path-clause-err : goal.returns-in_err-path-clause-err
returns-in_err-path-clause-err c =
    passed c.from_residual-in_err-path.result (Stops read_starred c.args.bounds.now c.args.left.now)
    c.from_residual-in_err-path.ensures.1
    (widen_fails _ _ _ refl refl refl
    (in_back (good_at sign.Star) good_path refl refl refl (reads_at sign.Star c.in_ok-star.ensures.ok)
    c.in_err-path.ensures.err))

pub returns-clause-ok : goal.returns-clause-ok
returns-clause-ok c = widen_takes _ _ refl refl
    (pair (good_at sign.Star) good_path refl (reads_at sign.Star c.in_ok-star.ensures.ok) c.in_ok-path.ensures.ok)
