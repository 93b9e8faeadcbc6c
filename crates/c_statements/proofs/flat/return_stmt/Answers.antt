use Rattle.std.proofs.Common.{refl}
use Rattle.c_grammar.specs.Syntax as s
use Rattle.c_grammar.specs.Syntax.{at_of}
use Rattle.c_grammar.specs.declared.signs.Sign.TheVariants as sign
use Rattle.c_reader.specs.Bounds.{Stops}
use Rattle.c_statements.specs.Shapes.{read_return_stmt}
use Rattle.c_grammar.proofs.Goods.{good_one, good_at}
use Rattle.c_grammar.proofs.Leasts.{least_absent}
use Rattle.c_grammar.proofs.Parts.{takes_made, fails_made, takes_token}
use Rattle.c_grammar.proofs.Sequences.{least_one, least_pair}
use Rattle.c_grammar.proofs.Statements.{good_maybe_operand}
use Rattle.c_grammar.proofs.Steps.{passed, pair, in_front, in_back, widen_takes, widen_fails, good_pair}
use Rattle.c_grammar.proofs.Tokens.{fails_one, takes_at, real}
use Rattle.c_statements.proofs.flat.return_stmt.Goals as goal

pub returns-in_err-token-clause-err : goal.returns-in_err-token-clause-err
returns-in_err-token-clause-err c =
    passed c.from_residual.result (Stops read_return_stmt c.args.bounds.now c.args.left.now) c.from_residual.ensures.1
    (widen_fails _ _ _ refl refl refl
    (fails_made s.return_of _
    (in_front (good_at sign.Return) (good_pair good_maybe_operand (good_one sign.Semicolon) refl) refl refl
    (least_pair good_maybe_operand (good_one sign.Semicolon) refl refl _ (least_absent _)
    (least_one sign.Semicolon (real sign.Semicolon tt) _))
    (fails_made at_of _
    (fails_one sign.Return (real sign.Return tt) _ _ _ _ c.in_err-token.ensures.err.0
    c.in_err-token.ensures.err.1)))))

pub returns-in_err-operand-clause-err : goal.returns-in_err-operand-clause-err
returns-in_err-operand-clause-err c =
    passed c.from_residual-in_err-operand.result (Stops read_return_stmt c.args.bounds.now c.args.left.now)
    c.from_residual-in_err-operand.ensures.1
    (widen_fails _ _ _ refl refl refl
    (fails_made s.return_of _
    (in_back (good_at sign.Return) (good_pair good_maybe_operand (good_one sign.Semicolon) refl) refl refl refl
    (takes_at sign.Return _ _ _ _ c.in_ok-token.ensures.ok.0 c.in_ok-token.ensures.ok.1)
    (in_front good_maybe_operand (good_one sign.Semicolon) refl refl
    (least_one sign.Semicolon (real sign.Semicolon tt) _) c.in_err-operand.ensures.err))))

pub returns-in_err-rest-clause-err : goal.returns-in_err-rest-clause-err
returns-in_err-rest-clause-err c =
    passed c.from_residual-in_err-rest.result (Stops read_return_stmt c.args.bounds.now c.args.left.now)
    c.from_residual-in_err-rest.ensures.1
    (widen_fails _ _ _ refl refl refl
    (fails_made s.return_of _
    (in_back (good_at sign.Return) (good_pair good_maybe_operand (good_one sign.Semicolon) refl) refl refl refl
    (takes_at sign.Return _ _ _ _ c.in_ok-token.ensures.ok.0 c.in_ok-token.ensures.ok.1)
    (in_back good_maybe_operand (good_one sign.Semicolon) refl refl refl c.in_ok-operand.ensures.ok
    (fails_one sign.Semicolon (real sign.Semicolon tt) _ _ _ _ c.in_err-rest.ensures.err.0
    c.in_err-rest.ensures.err.1)))))

pub returns-clause-ok : goal.returns-clause-ok
returns-clause-ok c = widen_takes _ _ refl refl
    (takes_made s.return_of
    (pair (good_at sign.Return) (good_pair good_maybe_operand (good_one sign.Semicolon) refl) refl
    (takes_at sign.Return _ _ _ _ c.in_ok-token.ensures.ok.0 c.in_ok-token.ensures.ok.1)
    (pair good_maybe_operand (good_one sign.Semicolon) refl c.in_ok-operand.ensures.ok
    (takes_token sign.Semicolon _ _ _ _ c.in_ok-rest.ensures.ok.0 c.in_ok-rest.ensures.ok.1))))
