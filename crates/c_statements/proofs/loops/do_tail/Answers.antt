use Rattle.std.proofs.Common.{refl}
use Rattle.c_ast.specs.declared.conditions.Cond.{Cond}
use Rattle.c_lexer.specs.declared.token.Token.{Token}
use Rattle.c_grammar.specs.declared.signs.Sign.TheVariants as sign
use Rattle.c_reader.specs.Bounds.{Stops}
use Rattle.c_statements.specs.Shapes.{read_do_tail}
use Rattle.c_grammar.proofs.Conditions.{least_cond}
use Rattle.c_grammar.proofs.Goods.{good_one}
use Rattle.c_grammar.proofs.Parts.{takes_made, fails_made, takes_token}
use Rattle.c_grammar.proofs.Sequences.{least_one, least_pair, least_bracketed}
use Rattle.c_grammar.proofs.Statements.{good_closed_cond, good_cond}
use Rattle.c_grammar.proofs.Steps.{passed, pair, in_front, in_back, widen_takes, widen_fails, good_pair}
use Rattle.c_grammar.proofs.Tokens.{fails_one, real}
use Rattle.c_statements.proofs.loops.do_tail.Goals as goal

pub returns-in_err-rest-clause-err : goal.returns-in_err-rest-clause-err
returns-in_err-rest-clause-err c =
    passed c.from_residual.result (Stops read_do_tail c.args.bounds.now c.args.left.now) c.from_residual.ensures.1
    (widen_fails _ _ _ refl refl refl
    (fails_made (λ (q : Token × (Cond × Token)). q.1.0) _
    (in_front (good_one sign.While) (good_pair good_closed_cond (good_one sign.Semicolon) refl) refl refl
    (least_pair good_closed_cond (good_one sign.Semicolon) refl refl _
    (least_bracketed good_cond refl _ (least_cond _)) (least_one sign.Semicolon (real sign.Semicolon tt) _))
    (fails_one sign.While (real sign.While tt) _ _ _ _ c.in_err-rest.ensures.err.0 c.in_err-rest.ensures.err.1))))

pub returns-in_err-cond-clause-err : goal.returns-in_err-cond-clause-err
returns-in_err-cond-clause-err c =
    passed c.from_residual-in_err-cond.result (Stops read_do_tail c.args.bounds.now c.args.left.now)
    c.from_residual-in_err-cond.ensures.1
    (widen_fails _ _ _ refl refl refl
    (fails_made (λ (q : Token × (Cond × Token)). q.1.0) _
    (in_back (good_one sign.While) (good_pair good_closed_cond (good_one sign.Semicolon) refl) refl refl refl
    (takes_token sign.While _ _ _ _ c.in_ok-rest.ensures.ok.0 c.in_ok-rest.ensures.ok.1)
    (in_front good_closed_cond (good_one sign.Semicolon) refl refl
    (least_one sign.Semicolon (real sign.Semicolon tt) _) c.in_err-cond.ensures.err))))

pub returns-in_err-rest-2-clause-err : goal.returns-in_err-rest-2-clause-err
returns-in_err-rest-2-clause-err c =
    passed c.from_residual-in_err-rest-2.result (Stops read_do_tail c.args.bounds.now c.args.left.now)
    c.from_residual-in_err-rest-2.ensures.1
    (widen_fails _ _ _ refl refl refl
    (fails_made (λ (q : Token × (Cond × Token)). q.1.0) _
    (in_back (good_one sign.While) (good_pair good_closed_cond (good_one sign.Semicolon) refl) refl refl refl
    (takes_token sign.While _ _ _ _ c.in_ok-rest.ensures.ok.0 c.in_ok-rest.ensures.ok.1)
    (in_back good_closed_cond (good_one sign.Semicolon) refl refl refl c.in_ok-cond.ensures.ok
    (fails_one sign.Semicolon (real sign.Semicolon tt) _ _ _ _ c.in_err-rest-2.ensures.err.0
    c.in_err-rest-2.ensures.err.1)))))

pub returns-clause-ok : goal.returns-clause-ok
returns-clause-ok c = widen_takes _ _ refl refl
    (takes_made (λ (q : Token × (Cond × Token)). q.1.0)
    (pair (good_one sign.While) (good_pair good_closed_cond (good_one sign.Semicolon) refl) refl
    (takes_token sign.While _ _ _ _ c.in_ok-rest.ensures.ok.0 c.in_ok-rest.ensures.ok.1)
    (pair good_closed_cond (good_one sign.Semicolon) refl c.in_ok-cond.ensures.ok
    (takes_token sign.Semicolon _ _ _ _ c.in_ok-rest-2.ensures.ok.0 c.in_ok-rest-2.ensures.ok.1))))
