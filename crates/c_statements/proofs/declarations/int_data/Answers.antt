use Rattle.std.proofs.Common.{refl}
use Rattle.c_ast.specs.declared.statements.Data.TheVariants as data'
use Rattle.c_grammar.specs.Syntax.{at_of}
use Rattle.c_grammar.specs.declared.signs.Sign.TheVariants as sign
use Rattle.c_reader.specs.Bounds.{Stops}
use Rattle.c_statements.specs.Shapes.{read_int_data}
use Rattle.c_grammar.proofs.Parts.{takes_made, fails_made}
use Rattle.c_grammar.proofs.Steps.{passed, widen_takes, widen_fails}
use Rattle.c_grammar.proofs.Tokens.{fails_one, takes_at, real}
use Rattle.c_statements.proofs.declarations.int_data.Goals as goal

pub returns-in_err-token-clause-err : goal.returns-in_err-token-clause-err
returns-in_err-token-clause-err c =
    passed c.from_residual.result (Stops read_int_data c.args.bounds.now c.args.left.now) c.from_residual.ensures.1
    (widen_fails _ _ _ refl refl refl
    (fails_made data'.Int _
    (fails_made at_of _
    (fails_one sign.Int (real sign.Int tt) _ _ _ _ c.in_err-token.ensures.err.0 c.in_err-token.ensures.err.1))))

pub returns-clause-ok : goal.returns-clause-ok
returns-clause-ok c = widen_takes _ _ refl refl
    (takes_made data'.Int (takes_at sign.Int _ _ _ _ c.in_ok-token.ensures.ok.0 c.in_ok-token.ensures.ok.1))
