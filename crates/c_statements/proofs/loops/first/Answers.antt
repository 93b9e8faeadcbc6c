use Rattle.std.proofs.Common.{◌≡◌, ℕ, List, true, false, refl, sym, ap, ◌∙◌}
use Rattle.c_ast.specs.declared.statements.First.TheVariants as first'
use Rattle.c_lexer.specs.declared.token.Token.{Token}
use Rattle.c_grammar.specs.Signs.{sign_at}
use Rattle.c_grammar.specs.Syntax as s
use Rattle.c_grammar.specs.declared.signs.Sign.TheVariants as sign
use Rattle.c_grammar.specs.words.Sets.{no_sign, begins_declare}
use Rattle.c_statements.specs.Shapes.{read_first, read_first_declare, read_first_simple}
use Rattle.c_grammar.proofs.Carrying.{Carries, over, widened, left_carries, right_carries, carried_ok, carried_err}
use Rattle.c_grammar.proofs.Goods.{good_one}
use Rattle.c_grammar.proofs.Parts.{good_made}
use Rattle.c_grammar.proofs.Statements.{good_declare, good_maybe_first}
use Rattle.c_grammar.proofs.Steps.{good_pair}
use Rattle.c_statements.proofs.loops.first.Goals as goal

module _ {n : ℕ} {ts : List Token} where
  at_declare : begins_declare (sign_at ts) ≡ true
      → Carries read_first_declare.rule no_sign no_sign read_first.rule no_sign no_sign n ts
  at_declare here = over
      (left_carries (good_made good_declare first'.Declare)
      (good_made (good_pair good_maybe_first (good_one sign.Semicolon) refl) s.first) refl refl here)
      (widened refl refl)

  at_simple : begins_declare (sign_at ts) ≡ false
      → Carries read_first_simple.rule no_sign no_sign read_first.rule no_sign no_sign n ts
  at_simple other = over (widened refl refl)
      (over
      (right_carries (good_made good_declare first'.Declare)
      (good_made (good_pair good_maybe_first (good_one sign.Semicolon) refl) s.first) refl refl refl other)
      (widened refl refl))

pub returns-then-begins_declare-clause-ok : goal.returns-then-begins_declare-clause-ok
returns-then-begins_declare-clause-ok c =
    carried_ok (at_declare (sym (ap (λ s. begins_declare s) c.peek.ensures) ∙ sym c.begins_declare.ensures
    ∙ c.if-begins_declare.true)) c.first_declare.result (λ r. r.1.now) (λ r. r.0) c.first_declare.ensures.ok

pub returns-then-begins_declare-clause-err : goal.returns-then-begins_declare-clause-err
returns-then-begins_declare-clause-err c =
    carried_err (at_declare (sym (ap (λ s. begins_declare s) c.peek.ensures) ∙ sym c.begins_declare.ensures
    ∙ c.if-begins_declare.true)) _ c.first_declare.result c.first_declare.ensures.err

pub returns-clause-ok : goal.returns-clause-ok
returns-clause-ok c =
    carried_ok (at_simple (sym (ap (λ s. begins_declare s) c.peek.ensures) ∙ sym c.begins_declare.ensures
    ∙ c.if-begins_declare.false)) c.first_simple.result (λ r. r.1.now) (λ r. r.0) c.first_simple.ensures.ok

pub returns-clause-err : goal.returns-clause-err
returns-clause-err c =
    carried_err (at_simple (sym (ap (λ s. begins_declare s) c.peek.ensures) ∙ sym c.begins_declare.ensures
    ∙ c.if-begins_declare.false)) _ c.first_simple.result c.first_simple.ensures.err
