use Rattle.std.proofs.Common.{refl}
use Rattle.c_ast.specs.declared.statements.Stmt.TheVariants as stmt'
use Rattle.c_grammar.specs.Syntax.{at_of}
use Rattle.c_grammar.specs.declared.signs.Sign.TheVariants as sign
use Rattle.c_reader.specs.Bounds.{Stops}
use Rattle.c_statements.specs.Shapes.{read_empty}
use Rattle.c_grammar.proofs.Parts.{takes_made, fails_made}
use Rattle.c_grammar.proofs.Steps.{passed, widen_takes, widen_fails}
use Rattle.c_grammar.proofs.Tokens.{fails_one, takes_at, real}
use Rattle.c_statements.proofs.flat.empty.Goals as goal

pub returns-in_err-token-clause-err : goal.returns-in_err-token-clause-err
returns-in_err-token-clause-err c =
    passed c.from_residual.result (Stops read_empty c.args.bounds.now c.args.left.now) c.from_residual.ensures.1
    (widen_fails _ _ _ refl refl refl
    (fails_made stmt'.Empty _
    (fails_made at_of _
    (fails_one sign.Semicolon (real sign.Semicolon tt) _ _ _ _ c.in_err-token.ensures.err.0
    c.in_err-token.ensures.err.1))))

pub returns-clause-ok : goal.returns-clause-ok
returns-clause-ok c = widen_takes _ _ refl refl
    (takes_made stmt'.Empty (takes_at sign.Semicolon _ _ _ _ c.in_ok-token.ensures.ok.0 c.in_ok-token.ensures.ok.1))
