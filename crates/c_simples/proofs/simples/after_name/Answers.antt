use Rattle.std.proofs.Common.{◌≡◌, ℕ, List, true, false, [], ◌∷◌, refl, sym, inl, inr, ◌∙◌}
use Rattle.c_ast.specs.declared.operands.Arrow.{Arrow}
use Rattle.c_ast.specs.declared.operands.Name.{Name}
use Rattle.c_ast.specs.declared.operands.Operand.{Operand}
use Rattle.c_ast.specs.declared.simples.Rhs.{Rhs}
use Rattle.c_lexer.specs.declared.token.Token.{Token}
use Rattle.c_grammar.specs.Signs.{sign_at}
use Rattle.c_grammar.specs.declared.signs.Sign.TheVariants as sign
use Rattle.c_grammar.specs.words.Parted.{After, simple_word}
use Rattle.c_grammar.specs.words.Sets.{among, no_sign, opens, operand_goes_on}
use Rattle.c_simples.specs.Shapes.{read_after_name, read_assigned, read_called_simple}
use Rattle.c_grammar.proofs.Carrying.{Carries, over, widened, same_carries, left_carries, right_carries, carried_ok}
use Rattle.c_grammar.proofs.Carrying.{carried_err}
use Rattle.c_grammar.proofs.Choices.{same_fork}
use Rattle.c_grammar.proofs.Goods.{good_arguments, good_argument}
use Rattle.c_grammar.proofs.Parts.{good_made}
use Rattle.c_grammar.proofs.Rules.{Good}
use Rattle.c_grammar.proofs.Statements.{good_assigned}
use Rattle.c_simples.proofs.simples.after_name.Goals as goal

module _ (name : Name) where
  good_called : Good (read_called_simple name).rule opens no_sign no_sign false
  good_called = good_made (good_arguments good_argument) (λ (os : List Operand). simple_word (name, inl os))

  good_to : Good (read_assigned name).rule (among (sign.Arrow ∷ (sign.Assign ∷ []))) operand_goes_on no_sign false
  good_to = good_made good_assigned (λ (q : List Arrow × (Token × Rhs)). simple_word (name, inr q))

  at_call : {n : ℕ} {ts : List Token} → opens (sign_at ts) ≡ true
      → Carries (read_called_simple name).rule no_sign no_sign (read_after_name name).rule operand_goes_on no_sign n ts
  at_call here = over (left_carries good_called good_to refl refl here)
      (over (widened refl refl) (same_carries (same_fork (λ (a : After). simple_word (name, a)))))

  at_to : {n : ℕ} {ts : List Token} → opens (sign_at ts) ≡ false
      → Carries (read_assigned name).rule operand_goes_on no_sign (read_after_name name).rule operand_goes_on no_sign n
      ts
  at_to other = over (right_carries good_called good_to refl refl refl other)
      (over (widened refl refl) (same_carries (same_fork (λ (a : After). simple_word (name, a)))))

pub returns-then-is_next-clause-ok : goal.returns-then-is_next-clause-ok
returns-then-is_next-clause-ok c =
    carried_ok (at_call c.args.name (sym c.is_next.ensures ∙ c.if-is_next.true)) c.called_simple.result (λ r. r.1.now)
    (λ r. r.0) c.called_simple.ensures.ok

pub returns-then-is_next-clause-err : goal.returns-then-is_next-clause-err
returns-then-is_next-clause-err c =
    carried_err (at_call c.args.name (sym c.is_next.ensures ∙ c.if-is_next.true)) _ c.called_simple.result
    c.called_simple.ensures.err

pub returns-clause-ok : goal.returns-clause-ok
returns-clause-ok c =
    carried_ok (at_to c.args.name (sym c.is_next.ensures ∙ c.if-is_next.false)) c.assigned.result (λ r. r.1.now)
    (λ r. r.0) c.assigned.ensures.ok

pub returns-clause-err : goal.returns-clause-err
returns-clause-err c =
    carried_err (at_to c.args.name (sym c.is_next.ensures ∙ c.if-is_next.false)) _ c.assigned.result
    c.assigned.ensures.err
