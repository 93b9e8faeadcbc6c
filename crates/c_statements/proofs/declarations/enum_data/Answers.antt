use Rattle.std.proofs.Common.{refl}
use Rattle.c_grammar.specs.Syntax as s
use Rattle.c_reader.specs.Bounds.{Stops}
use Rattle.c_statements.specs.Shapes.{read_enum_data}
use Rattle.c_grammar.proofs.Parts.{takes_made, fails_made}
use Rattle.c_grammar.proofs.Steps.{passed, widen_takes, widen_fails}
use Rattle.c_statements.proofs.declarations.enum_data.Goals as goal

pub returns-in_err-head-clause-err : goal.returns-in_err-head-clause-err
returns-in_err-head-clause-err c =
    passed c.from_residual.result (Stops read_enum_data c.args.bounds.now c.args.left.now) c.from_residual.ensures.1
    (widen_fails _ _ _ refl refl refl (fails_made s.enum_of _ c.in_err-head.ensures.err))

pub returns-clause-ok : goal.returns-clause-ok
returns-clause-ok c = widen_takes _ _ refl refl (takes_made s.enum_of c.in_ok-head.ensures.ok)
