use Rattle.std.proofs.Common.{◌≡◌, ℕ, List, true, false, refl, sym, inr, ◌∙◌}
use Rattle.fore_base.specs.declared.place.Place.{Place}
use Rattle.c_ast.specs.declared.operands.Name.{Name}
use Rattle.c_lexer.specs.declared.token.Token.{Token}
use Rattle.c_grammar.specs.Items as i
use Rattle.c_grammar.specs.Signs.{sign_at}
use Rattle.c_grammar.specs.words.Parted.{braces, Rest, EnumRest, enum_item_of}
use Rattle.c_grammar.specs.words.Sets.{names, no_sign, elses}
use Rattle.c_parser.specs.inner.Shapes.{read_enum_body, read_enum_named, read_enum_rest_of}
use Rattle.c_grammar.proofs.Carrying.{Carries, over, widened, same_carries, left_carries, right_carries, carried_ok}
use Rattle.c_grammar.proofs.Carrying.{carried_err}
use Rattle.c_grammar.proofs.Choices.{same_fork}
use Rattle.c_grammar.proofs.Items.{good_enum_body, good_named_data}
use Rattle.c_grammar.proofs.Parts.{good_made}
use Rattle.c_grammar.proofs.Rules.{Good}
use Rattle.c_parser.proofs.enums.enum_rest_of.Goals as goal

module _ (at : Place) (shape : Name) where
  good_body : Good (read_enum_body at shape).rule braces no_sign no_sign false
  good_body = good_made good_enum_body (λ (q : i.Enumerated). i.enum_of (at, (shape, q)))

  good_named : Good (read_enum_named at shape).rule names no_sign elses false
  good_named = good_made good_named_data (λ (q : Name × Rest). enum_item_of (at, (shape, inr q)))

  at_body : {n : ℕ} {ts : List Token} → braces (sign_at ts) ≡ true
      → Carries (read_enum_body at shape).rule no_sign no_sign (read_enum_rest_of at shape).rule no_sign elses n ts
  at_body here = over (left_carries good_body good_named refl refl here)
      (over (widened refl refl) (same_carries (same_fork (λ (q : EnumRest). enum_item_of (at, (shape, q))))))

  at_name : {n : ℕ} {ts : List Token} → braces (sign_at ts) ≡ false
      → Carries (read_enum_named at shape).rule no_sign elses (read_enum_rest_of at shape).rule no_sign elses n ts
  at_name other = over (right_carries good_body good_named refl refl refl other)
      (over (widened refl refl) (same_carries (same_fork (λ (q : EnumRest). enum_item_of (at, (shape, q))))))

pub returns-then-is_next-clause-ok : goal.returns-then-is_next-clause-ok
returns-then-is_next-clause-ok c =
    carried_ok (at_body c.args.at c.args.shape (sym c.is_next.ensures ∙ c.if-is_next.true)) c.enum_body.result
    (λ r. r.1.now) (λ r. r.0) c.enum_body.ensures.ok

pub returns-then-is_next-clause-err : goal.returns-then-is_next-clause-err
returns-then-is_next-clause-err c =
    carried_err (at_body c.args.at c.args.shape (sym c.is_next.ensures ∙ c.if-is_next.true)) _ c.enum_body.result
    c.enum_body.ensures.err

pub returns-clause-ok : goal.returns-clause-ok
returns-clause-ok c =
    carried_ok (at_name c.args.at c.args.shape (sym c.is_next.ensures ∙ c.if-is_next.false)) c.enum_named.result
    (λ r. r.1.now) (λ r. r.0) c.enum_named.ensures.ok

pub returns-clause-err : goal.returns-clause-err
returns-clause-err c =
    carried_err (at_name c.args.at c.args.shape (sym c.is_next.ensures ∙ c.if-is_next.false)) _ c.enum_named.result
    c.enum_named.ensures.err
