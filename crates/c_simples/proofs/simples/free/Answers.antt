use Rattle.std.proofs.Common.{refl}
use Rattle.c_grammar.specs.Syntax as s
use Rattle.c_grammar.specs.Syntax.{at_of}
use Rattle.c_grammar.specs.declared.signs.Sign.TheVariants as sign
use Rattle.c_reader.specs.Bounds.{Stops}
use Rattle.c_simples.specs.Shapes.{read_free}
use Rattle.c_grammar.proofs.Goods.{good_at, good_path}
use Rattle.c_grammar.proofs.Leasts.{least_path}
use Rattle.c_grammar.proofs.Parts.{takes_made, fails_made}
use Rattle.c_grammar.proofs.Sequences.{least_bracketed}
use Rattle.c_grammar.proofs.Statements.{good_closed_path}
use Rattle.c_grammar.proofs.Steps.{passed, pair, in_front, in_back, widen_takes, widen_fails}
use Rattle.c_grammar.proofs.Tokens.{fails_one, takes_at, real}
use Rattle.c_simples.proofs.simples.free.Goals as goal

pub returns-in_err-token-clause-err : goal.returns-in_err-token-clause-err
returns-in_err-token-clause-err c =
    passed c.from_residual.result (Stops read_free c.args.bounds.now c.args.left.now) c.from_residual.ensures.1
    (widen_fails _ _ _ refl refl refl
    (fails_made s.free_of _
    (in_front (good_at sign.Free) good_closed_path refl refl
    (least_bracketed good_path refl _ (least_path _))
    (fails_made at_of _
    (fails_one sign.Free (real sign.Free tt) _ _ _ _ c.in_err-token.ensures.err.0 c.in_err-token.ensures.err.1)))))

pub returns-in_err-path-clause-err : goal.returns-in_err-path-clause-err
returns-in_err-path-clause-err c =
    passed c.from_residual-in_err-path.result (Stops read_free c.args.bounds.now c.args.left.now)
    c.from_residual-in_err-path.ensures.1
    (widen_fails _ _ _ refl refl refl
    (fails_made s.free_of _
    (in_back (good_at sign.Free) good_closed_path refl refl refl
    (takes_at sign.Free _ _ _ _ c.in_ok-token.ensures.ok.0 c.in_ok-token.ensures.ok.1) c.in_err-path.ensures.err)))

pub returns-clause-ok : goal.returns-clause-ok
returns-clause-ok c = widen_takes _ _ refl refl
    (takes_made s.free_of
    (pair (good_at sign.Free) good_closed_path refl
    (takes_at sign.Free _ _ _ _ c.in_ok-token.ensures.ok.0 c.in_ok-token.ensures.ok.1) c.in_ok-path.ensures.ok))
