use Rattle.std.proofs.Common.{List, Option, refl}
use Rattle.c_ast.specs.declared.items.Field.{Field}
use Rattle.c_lexer.specs.declared.token.Token.{Token}
use Rattle.c_grammar.specs.Items as i
use Rattle.c_grammar.specs.declared.signs.Sign.TheVariants as sign
use Rattle.c_reader.specs.Bounds.{Stops}
use Rattle.c_parser.specs.inner.Shapes.{read_struct_end}
use Rattle.c_grammar.proofs.Goods.{good_one}
use Rattle.c_grammar.proofs.Items.{good_maybe_braced}
use Rattle.c_grammar.proofs.Parts.{takes_made, fails_made, takes_token}
use Rattle.c_grammar.proofs.Sequences.{least_one}
use Rattle.c_grammar.proofs.Steps.{passed, pair, in_front, in_back, widen_takes, widen_fails}
use Rattle.c_grammar.proofs.Tokens.{fails_one, real}
use Rattle.c_parser.proofs.items.struct_end.Goals as goal

pub returns-in_err-fields-clause-err : goal.returns-in_err-fields-clause-err
returns-in_err-fields-clause-err c =
    passed c.from_residual.result (Stops (read_struct_end c.args.at c.args.shape) c.args.bounds.now c.args.left.now)
    c.from_residual.ensures.1
    (widen_fails _ _ _ refl refl refl
    (fails_made (λ (q : Option (List Field) × Token). i.struct_of (c.args.at, (c.args.shape, q))) _
    (in_front good_maybe_braced (good_one sign.Semicolon) refl refl
    (least_one sign.Semicolon (real sign.Semicolon tt) _) c.in_err-fields.ensures.err)))

pub returns-in_err-rest-clause-err : goal.returns-in_err-rest-clause-err
returns-in_err-rest-clause-err c =
    passed c.from_residual-in_err-rest.result (Stops (read_struct_end c.args.at c.args.shape) c.args.bounds.now
    c.args.left.now) c.from_residual-in_err-rest.ensures.1
    (widen_fails _ _ _ refl refl refl
    (fails_made (λ (q : Option (List Field) × Token). i.struct_of (c.args.at, (c.args.shape, q))) _
    (in_back good_maybe_braced (good_one sign.Semicolon) refl refl refl c.in_ok-fields.ensures.ok
    (fails_one sign.Semicolon (real sign.Semicolon tt) _ _ _ _ c.in_err-rest.ensures.err.0
    c.in_err-rest.ensures.err.1))))

pub returns-clause-ok : goal.returns-clause-ok
returns-clause-ok c = widen_takes _ _ refl refl
    (takes_made (λ (q : Option (List Field) × Token). i.struct_of (c.args.at, (c.args.shape, q)))
    (pair good_maybe_braced (good_one sign.Semicolon) refl c.in_ok-fields.ensures.ok
    (takes_token sign.Semicolon _ _ _ _ c.in_ok-rest.ensures.ok.0 c.in_ok-rest.ensures.ok.1)))
