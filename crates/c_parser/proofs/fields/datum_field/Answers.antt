use Rattle.std.proofs.Common.{false, refl}
use Rattle.c_grammar.specs.Items as i
use Rattle.c_grammar.specs.Syntax.{data_part}
use Rattle.c_grammar.specs.declared.signs.Sign.TheVariants as sign
use Rattle.c_grammar.specs.words.Parted.{begins_data}
use Rattle.c_grammar.specs.words.Sets.{names, commas, no_sign}
use Rattle.c_reader.specs.Bounds.{Stops}
use Rattle.c_parser.specs.inner.Shapes.{read_datum_field, read_names}
use Rattle.c_grammar.proofs.Closings.{Enclosed, closed, enclosed, outer_fails, inner_fails, end_fails, takes_enclosed}
use Rattle.c_grammar.proofs.Items.{good_names}
use Rattle.c_grammar.proofs.Statements.{good_data}
use Rattle.c_grammar.proofs.Steps.{passed}
use Rattle.c_grammar.proofs.Tokens.{real}
use Rattle.c_parser.proofs.FieldForms.{least_names}
use Rattle.c_parser.proofs.fields.datum_field.Goals as goal

ended : Enclosed (λ n. data_part) begins_data (read_names false).rule names commas no_sign false sign.Semicolon no_sign
ended = enclosed good_data (closed good_names (real sign.Semicolon tt) refl refl refl) (least_names false) refl refl
    refl refl

pub returns-in_err-data-clause-err : goal.returns-in_err-data-clause-err
returns-in_err-data-clause-err c =
    passed c.from_residual.result (Stops read_datum_field c.args.bounds.now c.args.left.now) c.from_residual.ensures.1
    (outer_fails ended i.datum_fields_of c.in_err-data.ensures.err)

pub returns-in_err-fields-clause-err : goal.returns-in_err-fields-clause-err
returns-in_err-fields-clause-err c =
    passed c.from_residual-in_err-fields.result (Stops read_datum_field c.args.bounds.now c.args.left.now)
    c.from_residual-in_err-fields.ensures.1
    (inner_fails ended i.datum_fields_of refl c.in_ok-data.ensures.ok c.in_err-fields.ensures.err)

pub returns-in_err-rest-clause-err : goal.returns-in_err-rest-clause-err
returns-in_err-rest-clause-err c =
    passed c.from_residual-in_err-rest.result (Stops read_datum_field c.args.bounds.now c.args.left.now)
    c.from_residual-in_err-rest.ensures.1
    (end_fails ended i.datum_fields_of c.in_ok-data.ensures.ok c.in_ok-fields.ensures.ok c.in_err-rest.ensures.err)

pub returns-clause-ok : goal.returns-clause-ok
returns-clause-ok c =
    takes_enclosed ended i.datum_fields_of c.in_ok-data.ensures.ok c.in_ok-fields.ensures.ok c.in_ok-rest.ensures.ok
