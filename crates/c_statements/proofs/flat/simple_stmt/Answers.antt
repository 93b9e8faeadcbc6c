use Rattle.std.proofs.Common.{refl, ap}
use Rattle.c_ast.specs.declared.statements.Stmt.TheVariants as stmt'
use Rattle.c_grammar.specs.Syntax as s
use Rattle.c_grammar.specs.declared.signs.Sign.TheVariants as sign
use Rattle.c_grammar.specs.words.Faults.Fails.{no_memory}
use Rattle.c_reader.specs.Bounds.{Stops}
use Rattle.c_statements.specs.Shapes.{read_simple_stmt}
use Rattle.c_grammar.proofs.Goods.{good_one}
use Rattle.c_grammar.proofs.Parts.{takes_made, fails_made, takes_token}
use Rattle.c_grammar.proofs.Sequences.{takes_as, least_one}
use Rattle.c_grammar.proofs.Statements.{good_simple}
use Rattle.c_grammar.proofs.Steps.{passed, pair, in_front, in_back, widen_takes, widen_fails}
use Rattle.c_grammar.proofs.Tokens.{fails_one, real}
use Rattle.c_statements.proofs.flat.simple_stmt.Goals as goal

pub returns-in_err-simple-clause-err : goal.returns-in_err-simple-clause-err
returns-in_err-simple-clause-err c =
    passed c.from_residual.result (Stops read_simple_stmt c.args.bounds.now c.args.left.now) c.from_residual.ensures.1
    (widen_fails _ _ _ refl refl refl
    (fails_made s.simple_of _
    (in_front good_simple (good_one sign.Semicolon) refl refl (least_one sign.Semicolon (real sign.Semicolon tt) _)
    c.in_err-simple.ensures.err)))

pub returns-in_err-rest-clause-err : goal.returns-in_err-rest-clause-err
returns-in_err-rest-clause-err c =
    passed c.from_residual-in_err-rest.result (Stops read_simple_stmt c.args.bounds.now c.args.left.now)
    c.from_residual-in_err-rest.ensures.1
    (widen_fails _ _ _ refl refl refl
    (fails_made s.simple_of _
    (in_back good_simple (good_one sign.Semicolon) refl refl refl c.in_ok-simple.ensures.ok
    (fails_one sign.Semicolon (real sign.Semicolon tt) _ _ _ _ c.in_err-rest.ensures.err.0
    c.in_err-rest.ensures.err.1))))

pub returns-in_err-boxed-clause-err : goal.returns-in_err-boxed-clause-err
returns-in_err-boxed-clause-err c =
    passed c.from_residual-in_err-boxed.result (Stops read_simple_stmt c.args.bounds.now c.args.left.now)
    c.from_residual-in_err-boxed.ensures.1 no_memory

pub returns-clause-ok : goal.returns-clause-ok
returns-clause-ok c = takes_as _ (ap (λ b. stmt'.Simple b) c.in_ok-boxed.ensures)
    (widen_takes _ _ refl refl
    (takes_made s.simple_of
    (pair good_simple (good_one sign.Semicolon) refl c.in_ok-simple.ensures.ok
    (takes_token sign.Semicolon _ _ _ _ c.in_ok-rest.ensures.ok.0 c.in_ok-rest.ensures.ok.1))))
