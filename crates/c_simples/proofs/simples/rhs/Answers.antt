use Rattle.std.proofs.Common.{◌≡◌, ℕ, List, true, false, refl, sym, ap, ◌∙◌}
use Rattle.c_ast.specs.declared.simples.Rhs.TheVariants as rhs'
use Rattle.c_lexer.specs.declared.token.Token.{Token}
use Rattle.c_grammar.specs.Signs.{sign_at}
use Rattle.c_grammar.specs.words.Sets.{no_sign, operand_goes_on, begins_operand}
use Rattle.c_simples.specs.Shapes.{read_malloc, read_operand_rhs, read_rhs}
use Rattle.c_grammar.proofs.Carrying.{Carries, over, widened, left_carries, right_carries, carried_ok, carried_err}
use Rattle.c_grammar.proofs.Goods.{good_operand}
use Rattle.c_grammar.proofs.Parts.{good_made}
use Rattle.c_grammar.proofs.Statements.{good_malloc}
use Rattle.c_simples.proofs.simples.rhs.Goals as goal

module _ {n : ℕ} {ts : List Token} where
  at_operand : begins_operand (sign_at ts) ≡ true
      → Carries read_operand_rhs.rule operand_goes_on no_sign read_rhs.rule operand_goes_on no_sign n ts
  at_operand here = over (left_carries (good_made good_operand rhs'.Operand) good_malloc refl refl here)
      (widened refl refl)

  at_malloc : begins_operand (sign_at ts) ≡ false
      → Carries read_malloc.rule no_sign no_sign read_rhs.rule operand_goes_on no_sign n ts
  at_malloc other = over (right_carries (good_made good_operand rhs'.Operand) good_malloc refl refl refl other)
      (widened refl refl)

pub returns-then-begins_operand-clause-ok : goal.returns-then-begins_operand-clause-ok
returns-then-begins_operand-clause-ok c =
    carried_ok (at_operand (sym (ap (λ s. begins_operand s) c.peek.ensures) ∙ sym c.begins_operand.ensures
    ∙ c.if-begins_operand.true)) c.operand_rhs.result (λ r. r.1.now) (λ r. r.0) c.operand_rhs.ensures.ok

pub returns-then-begins_operand-clause-err : goal.returns-then-begins_operand-clause-err
returns-then-begins_operand-clause-err c =
    carried_err (at_operand (sym (ap (λ s. begins_operand s) c.peek.ensures) ∙ sym c.begins_operand.ensures
    ∙ c.if-begins_operand.true)) _ c.operand_rhs.result c.operand_rhs.ensures.err

pub returns-clause-ok : goal.returns-clause-ok
returns-clause-ok c =
    carried_ok (at_malloc (sym (ap (λ s. begins_operand s) c.peek.ensures) ∙ sym c.begins_operand.ensures
    ∙ c.if-begins_operand.false)) c.malloc.result (λ r. r.1.now) (λ r. r.0) c.malloc.ensures.ok

pub returns-clause-err : goal.returns-clause-err
returns-clause-err c =
    carried_err (at_malloc (sym (ap (λ s. begins_operand s) c.peek.ensures) ∙ sym c.begins_operand.ensures
    ∙ c.if-begins_operand.false)) _ c.malloc.result c.malloc.ensures.err
