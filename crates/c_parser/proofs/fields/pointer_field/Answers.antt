use Rattle.std.proofs.Common.{true, false, [], ◌∷◌, refl}
use Rattle.c_grammar.specs.Items as i
use Rattle.c_grammar.specs.declared.signs.Sign.TheVariants as sign
use Rattle.c_grammar.specs.words.Parted.{stars}
use Rattle.c_grammar.specs.words.Sets.{among, commas, no_sign}
use Rattle.c_reader.specs.Bounds.{Stops}
use Rattle.c_statements.specs.Shapes.{read_named}
use Rattle.c_parser.specs.inner.Shapes.{read_pointer_field, read_names}
use Rattle.c_grammar.proofs.Closings.{Enclosed, closed, enclosed, outer_fails, inner_fails, end_fails, takes_enclosed}
use Rattle.c_grammar.proofs.Heads.{apart, same_apart}
use Rattle.c_grammar.proofs.Items.{good_star_names}
use Rattle.c_grammar.proofs.Parts.{takes_same, fails_same}
use Rattle.c_grammar.proofs.Steps.{passed}
use Rattle.c_grammar.proofs.Tokens.{real}
use Rattle.c_statements.proofs.Words.{good_named}
use Rattle.c_parser.proofs.FieldForms.{least_names}
use Rattle.c_parser.proofs.fields.pointer_field.Goals as goal

ended : Enclosed (read_named sign.Struct).rule (among (sign.Struct ∷ [])) (read_names true).rule stars commas no_sign
    false sign.Semicolon no_sign
ended = enclosed (good_named sign.Struct) (closed good_star_names (real sign.Semicolon tt) refl refl refl)
    (least_names true) refl refl refl refl

pub returns-in_err-head-clause-err : goal.returns-in_err-head-clause-err
returns-in_err-head-clause-err c =
    passed c.from_residual.result (Stops read_pointer_field c.args.bounds.now c.args.left.now) c.from_residual.ensures.1
    (fails_same (same_apart i.pointer_fields_of) _
    (outer_fails ended (apart i.pointer_fields_of) c.in_err-head.ensures.err))

pub returns-in_err-fields-clause-err : goal.returns-in_err-fields-clause-err
returns-in_err-fields-clause-err c =
    passed c.from_residual-in_err-fields.result (Stops read_pointer_field c.args.bounds.now c.args.left.now)
    c.from_residual-in_err-fields.ensures.1
    (fails_same (same_apart i.pointer_fields_of) _
    (inner_fails ended (apart i.pointer_fields_of) refl c.in_ok-head.ensures.ok c.in_err-fields.ensures.err))

pub returns-in_err-rest-clause-err : goal.returns-in_err-rest-clause-err
returns-in_err-rest-clause-err c =
    passed c.from_residual-in_err-rest.result (Stops read_pointer_field c.args.bounds.now c.args.left.now)
    c.from_residual-in_err-rest.ensures.1
    (fails_same (same_apart i.pointer_fields_of) _
    (end_fails ended (apart i.pointer_fields_of) c.in_ok-head.ensures.ok c.in_ok-fields.ensures.ok
    c.in_err-rest.ensures.err))

pub returns-clause-ok : goal.returns-clause-ok
returns-clause-ok c = takes_same (same_apart i.pointer_fields_of)
    (takes_enclosed ended (apart i.pointer_fields_of) c.in_ok-head.ensures.ok c.in_ok-fields.ensures.ok
    c.in_ok-rest.ensures.ok)
