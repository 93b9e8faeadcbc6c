use Rattle.std.proofs.Common.{refl}
use Rattle.c_grammar.specs.Syntax as s
use Rattle.c_grammar.specs.declared.signs.Sign.TheVariants as sign
use Rattle.c_reader.specs.Bounds.{Stops}
use Rattle.c_statements.specs.Shapes.{read_assert_stmt}
use Rattle.c_grammar.proofs.Goods.{good_one}
use Rattle.c_grammar.proofs.Heads.{apart, same_apart}
use Rattle.c_grammar.proofs.Parts.{takes_made, fails_made, takes_same, fails_same, takes_token}
use Rattle.c_grammar.proofs.Sequences.{least_one}
use Rattle.c_grammar.proofs.Steps.{passed, pair, in_front, in_back, widen_takes, widen_fails}
use Rattle.c_grammar.proofs.Tokens.{fails_one, real}
use Rattle.c_statements.proofs.Words.{good_tested}
use Rattle.c_statements.proofs.flat.assert_stmt.Goals as goal

pub returns-in_err-head-clause-err : goal.returns-in_err-head-clause-err
returns-in_err-head-clause-err c =
    passed c.from_residual.result (Stops read_assert_stmt c.args.bounds.now c.args.left.now) c.from_residual.ensures.1
    (fails_same (same_apart s.assert_of) _
    (widen_fails _ _ _ refl refl refl
    (fails_made (apart s.assert_of) _
    (in_front (good_tested sign.Assert) (good_one sign.Semicolon) refl refl
    (least_one sign.Semicolon (real sign.Semicolon tt) _) c.in_err-head.ensures.err))))

pub returns-in_err-rest-clause-err : goal.returns-in_err-rest-clause-err
returns-in_err-rest-clause-err c =
    passed c.from_residual-in_err-rest.result (Stops read_assert_stmt c.args.bounds.now c.args.left.now)
    c.from_residual-in_err-rest.ensures.1
    (fails_same (same_apart s.assert_of) _
    (widen_fails _ _ _ refl refl refl
    (fails_made (apart s.assert_of) _
    (in_back (good_tested sign.Assert) (good_one sign.Semicolon) refl refl refl c.in_ok-head.ensures.ok
    (fails_one sign.Semicolon (real sign.Semicolon tt) _ _ _ _ c.in_err-rest.ensures.err.0
    c.in_err-rest.ensures.err.1)))))

pub returns-clause-ok : goal.returns-clause-ok
returns-clause-ok c = takes_same (same_apart s.assert_of)
    (widen_takes _ _ refl refl
    (takes_made (apart s.assert_of)
    (pair (good_tested sign.Assert) (good_one sign.Semicolon) refl c.in_ok-head.ensures.ok
    (takes_token sign.Semicolon _ _ _ _ c.in_ok-rest.ensures.ok.0 c.in_ok-rest.ensures.ok.1))))
