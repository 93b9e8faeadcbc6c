use Rattle.std.proofs.Common.{refl}
use Rattle.c_grammar.specs.declared.signs.Sign.TheVariants as sign
use Rattle.c_reader.specs.Bounds.{Stops}
use Rattle.c_parser.specs.inner.Shapes.{read_next_name}
use Rattle.c_grammar.proofs.Series.{word_fails, behind_fails, takes_behind}
use Rattle.c_grammar.proofs.Steps.{passed}
use Rattle.c_parser.proofs.FieldForms.{good_field_name, least_field_name}
use Rattle.c_parser.proofs.fields.next_name.Goals as goal

pub returns-in_err-rest-clause-err : goal.returns-in_err-rest-clause-err
returns-in_err-rest-clause-err c =
    passed c.from_residual.result (Stops (read_next_name c.args.starred) c.args.bounds.now c.args.left.now)
    c.from_residual.ensures.1
    (word_fails sign.Comma refl (good_field_name c.args.starred) (least_field_name c.args.starred _)
    c.in_err-rest.ensures.err)

pub returns-in_err-name-clause-err : goal.returns-in_err-name-clause-err
returns-in_err-name-clause-err c =
    passed c.from_residual-in_err-name.result (Stops (read_next_name c.args.starred) c.args.bounds.now c.args.left.now)
    c.from_residual-in_err-name.ensures.1
    (behind_fails sign.Comma refl (good_field_name c.args.starred) c.in_ok-rest.ensures.ok c.in_err-name.ensures.err)

pub returns-clause-ok : goal.returns-clause-ok
returns-clause-ok c =
    takes_behind sign.Comma refl (good_field_name c.args.starred) c.in_ok-rest.ensures.ok c.in_ok-name.ensures.ok
