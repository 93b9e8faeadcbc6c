use Rattle.std.proofs.Common.{◌≡◌, ℕ, List, Option, true, false, refl, sym, ap, inr, ◌∙◌}
use Rattle.fore_base.specs.declared.place.Place.{Place}
use Rattle.c_ast.specs.declared.items.Field.{Field}
use Rattle.c_ast.specs.declared.operands.Name.{Name}
use Rattle.c_lexer.specs.declared.token.Token.{Token}
use Rattle.c_grammar.specs.Items as i
use Rattle.c_grammar.specs.Signs.{sign_at}
use Rattle.c_grammar.specs.words.Parted.{begins_ending, stars, Rest, StructRest, struct_item_of}
use Rattle.c_grammar.specs.words.Sets.{no_sign, elses}
use Rattle.c_parser.specs.inner.Shapes.{read_star_rest, read_struct_end, read_struct_rest_of}
use Rattle.c_grammar.proofs.Carrying.{Carries, over, widened, same_carries, left_carries, right_carries, carried_ok}
use Rattle.c_grammar.proofs.Carrying.{carried_err}
use Rattle.c_grammar.proofs.Choices.{same_fork}
use Rattle.c_grammar.proofs.Items.{good_star_rest, good_struct_end}
use Rattle.c_grammar.proofs.Parts.{good_made}
use Rattle.c_grammar.proofs.Rules.{Good}
use Rattle.c_parser.proofs.items.struct_rest_of.Goals as goal

module _ (at : Place) (shape : Name) where
  good_end : Good (read_struct_end at shape).rule begins_ending no_sign no_sign false
  good_end = good_made good_struct_end (λ (q : Option (List Field) × Token). i.struct_of (at, (shape, q)))

  good_star : Good (read_star_rest at shape).rule stars no_sign elses false
  good_star = good_made good_star_rest (λ (q : Token × (Name × Rest)). struct_item_of (at, (shape, inr q)))

  at_end : {n : ℕ} {ts : List Token} → begins_ending (sign_at ts) ≡ true
      → Carries (read_struct_end at shape).rule no_sign no_sign (read_struct_rest_of at shape).rule no_sign elses n ts
  at_end here = over (left_carries good_end good_star refl refl here)
      (over (widened refl refl) (same_carries (same_fork (λ (q : StructRest). struct_item_of (at, (shape, q))))))

  at_star : {n : ℕ} {ts : List Token} → begins_ending (sign_at ts) ≡ false
      → Carries (read_star_rest at shape).rule no_sign elses (read_struct_rest_of at shape).rule no_sign elses n ts
  at_star other = over (right_carries good_end good_star refl refl refl other)
      (over (widened refl refl) (same_carries (same_fork (λ (q : StructRest). struct_item_of (at, (shape, q))))))

pub returns-then-begins_ending-clause-ok : goal.returns-then-begins_ending-clause-ok
returns-then-begins_ending-clause-ok c =
    carried_ok (at_end c.args.at c.args.shape (sym (ap (λ s. begins_ending s) c.peek.ensures)
    ∙ sym c.begins_ending.ensures ∙ c.if-begins_ending.true)) c.struct_end.result (λ r. r.1.now) (λ r. r.0)
    c.struct_end.ensures.ok

pub returns-then-begins_ending-clause-err : goal.returns-then-begins_ending-clause-err
returns-then-begins_ending-clause-err c =
    carried_err (at_end c.args.at c.args.shape (sym (ap (λ s. begins_ending s) c.peek.ensures)
    ∙ sym c.begins_ending.ensures ∙ c.if-begins_ending.true)) _ c.struct_end.result c.struct_end.ensures.err

pub returns-clause-ok : goal.returns-clause-ok
returns-clause-ok c =
    carried_ok (at_star c.args.at c.args.shape (sym (ap (λ s. begins_ending s) c.peek.ensures)
    ∙ sym c.begins_ending.ensures ∙ c.if-begins_ending.false)) c.star_rest.result (λ r. r.1.now) (λ r. r.0)
    c.star_rest.ensures.ok

pub returns-clause-err : goal.returns-clause-err
returns-clause-err c =
    carried_err (at_star c.args.at c.args.shape (sym (ap (λ s. begins_ending s) c.peek.ensures)
    ∙ sym c.begins_ending.ensures ∙ c.if-begins_ending.false)) _ c.star_rest.result c.star_rest.ensures.err
