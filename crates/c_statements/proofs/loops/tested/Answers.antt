use Rattle.std.proofs.Common.{refl}
use Rattle.c_grammar.specs.Syntax.{at_of}
use Rattle.c_reader.specs.Bounds.{Stops}
use Rattle.c_statements.specs.Shapes.{read_tested}
use Rattle.c_grammar.proofs.Conditions.{least_cond}
use Rattle.c_grammar.proofs.Goods.{good_at}
use Rattle.c_grammar.proofs.Parts.{fails_made}
use Rattle.c_grammar.proofs.Sequences.{least_bracketed}
use Rattle.c_grammar.proofs.Statements.{good_closed_cond, good_cond}
use Rattle.c_grammar.proofs.Steps.{passed, pair, in_front, in_back, widen_takes, widen_fails}
use Rattle.c_grammar.proofs.Tokens.{fails_one, takes_at}
use Rattle.c_statements.proofs.Words.{steady_behind}
use Rattle.c_statements.proofs.loops.tested.Goals as goal

pub returns-in_err-token-clause-err : goal.returns-in_err-token-clause-err
returns-in_err-token-clause-err c =
    passed c.from_residual.result (Stops (read_tested c.args.word) c.args.bounds.now c.args.left.now)
    c.from_residual.ensures.1
    (widen_fails _ _ _ refl refl refl
    (in_front (good_at c.args.word) good_closed_cond refl refl
    (least_bracketed good_cond refl _ (least_cond _))
    (fails_made at_of _
    (fails_one c.args.word c.requires _ _ _ _ c.in_err-token.ensures.err.0 c.in_err-token.ensures.err.1))))

pub returns-in_err-cond-clause-err : goal.returns-in_err-cond-clause-err
returns-in_err-cond-clause-err c =
    passed c.from_residual-in_err-cond.result (Stops (read_tested c.args.word) c.args.bounds.now c.args.left.now)
    c.from_residual-in_err-cond.ensures.1
    (widen_fails _ _ _ refl refl refl
    (in_back (good_at c.args.word) good_closed_cond refl refl (steady_behind c.args.word c.requires)
    (takes_at c.args.word _ _ _ _ c.in_ok-token.ensures.ok.0 c.in_ok-token.ensures.ok.1) c.in_err-cond.ensures.err))

pub returns-clause-ok : goal.returns-clause-ok
returns-clause-ok c = widen_takes _ _ refl refl
    (pair (good_at c.args.word) good_closed_cond refl
    (takes_at c.args.word _ _ _ _ c.in_ok-token.ensures.ok.0 c.in_ok-token.ensures.ok.1) c.in_ok-cond.ensures.ok)
