use Rattle.std.proofs.Common.{false, refl}
use Rattle.c_grammar.specs.Syntax as s
use Rattle.c_grammar.specs.declared.signs.Sign.TheVariants as sign
use Rattle.c_grammar.specs.words.Parted.{braces}
use Rattle.c_grammar.specs.words.Sets.{begins_declare, no_sign}
use Rattle.c_reader.specs.Bounds.{Stops}
use Rattle.c_parser.specs.inner.Shapes.{read_braced, read_field, read_some_fields}
use Rattle.c_grammar.proofs.Closings.{Enclosed, closed, enclosed, outer_fails, inner_fails, end_fails, takes_enclosed}
use Rattle.c_grammar.proofs.Families.{one}
use Rattle.c_grammar.proofs.Goods.{good_one}
use Rattle.c_grammar.proofs.ItemLeasts.{least_field}
use Rattle.c_grammar.proofs.Items.{good_field, good_more_fields, good_some_fields}
use Rattle.c_grammar.proofs.Parts.{alive_made}
use Rattle.c_grammar.proofs.Repeats.{least_many}
use Rattle.c_grammar.proofs.Sequences.{least_pair}
use Rattle.c_grammar.proofs.Steps.{passed}
use Rattle.c_grammar.proofs.Tokens.{fails_token, reads_token, real}
use Rattle.c_parser.proofs.fields.braced.Goals as goal

in_braces : Enclosed (one sign.OpenBrace) braces read_some_fields.rule begins_declare begins_declare no_sign false
    sign.CloseBrace no_sign
in_braces = enclosed (good_one sign.OpenBrace) (closed good_some_fields (real sign.CloseBrace tt) refl refl refl)
    (λ n. alive_made s.joined
    (least_pair good_field good_more_fields refl refl n (least_field n) (least_many read_field.rule no_sign n)))
    refl refl refl refl

pub returns-in_err-rest-clause-err : goal.returns-in_err-rest-clause-err
returns-in_err-rest-clause-err c =
    passed c.from_residual.result (Stops read_braced c.args.bounds.now c.args.left.now) c.from_residual.ensures.1
    (outer_fails in_braces s.middle (fails_token sign.OpenBrace (real sign.OpenBrace tt) c.in_err-rest.ensures.err))

pub returns-in_err-fields-clause-err : goal.returns-in_err-fields-clause-err
returns-in_err-fields-clause-err c =
    passed c.from_residual-in_err-fields.result (Stops read_braced c.args.bounds.now c.args.left.now)
    c.from_residual-in_err-fields.ensures.1
    (inner_fails in_braces s.middle refl (reads_token sign.OpenBrace c.in_ok-rest.ensures.ok)
    c.in_err-fields.ensures.err)

pub returns-in_err-rest-2-clause-err : goal.returns-in_err-rest-2-clause-err
returns-in_err-rest-2-clause-err c =
    passed c.from_residual-in_err-rest-2.result (Stops read_braced c.args.bounds.now c.args.left.now)
    c.from_residual-in_err-rest-2.ensures.1
    (end_fails in_braces s.middle (reads_token sign.OpenBrace c.in_ok-rest.ensures.ok) c.in_ok-fields.ensures.ok
    c.in_err-rest-2.ensures.err)

pub returns-clause-ok : goal.returns-clause-ok
returns-clause-ok c = takes_enclosed in_braces s.middle (reads_token sign.OpenBrace c.in_ok-rest.ensures.ok)
    c.in_ok-fields.ensures.ok c.in_ok-rest-2.ensures.ok
