use Rattle.std.proofs.Common.{refl}
use Rattle.c_grammar.specs.Items as i
use Rattle.c_reader.specs.Bounds.{Stops}
use Rattle.c_parser.specs.inner.Shapes.{read_datum_param}
use Rattle.c_grammar.proofs.Goods.{good_name}
use Rattle.c_grammar.proofs.Leasts.{least_name}
use Rattle.c_grammar.proofs.Parts.{takes_made, fails_made}
use Rattle.c_grammar.proofs.Statements.{good_data}
use Rattle.c_grammar.proofs.Steps.{passed, pair, in_front, in_back, widen_takes, widen_fails}
use Rattle.c_grammar.proofs.Tokens.{takes_name}
use Rattle.c_parser.proofs.heads.datum_param.Goals as goal

pub returns-in_err-data-clause-err : goal.returns-in_err-data-clause-err
returns-in_err-data-clause-err c =
    passed c.from_residual.result (Stops read_datum_param c.args.bounds.now c.args.left.now) c.from_residual.ensures.1
    (widen_fails _ _ _ refl refl refl
    (fails_made i.datum_param_of _
    (in_front good_data good_name refl refl (least_name _) c.in_err-data.ensures.err)))

pub returns-in_err-variable-clause-err : goal.returns-in_err-variable-clause-err
returns-in_err-variable-clause-err c =
    passed c.from_residual-in_err-variable.result (Stops read_datum_param c.args.bounds.now c.args.left.now)
    c.from_residual-in_err-variable.ensures.1
    (widen_fails _ _ _ refl refl refl
    (fails_made i.datum_param_of _
    (in_back good_data good_name refl refl refl c.in_ok-data.ensures.ok c.in_err-variable.ensures.err)))

pub returns-clause-ok : goal.returns-clause-ok
returns-clause-ok c = widen_takes _ _ refl refl
    (takes_made i.datum_param_of
    (pair good_data good_name refl c.in_ok-data.ensures.ok (takes_name _ _ _ _ c.in_ok-variable.ensures.ok)))
