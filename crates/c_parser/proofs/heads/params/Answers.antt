use Rattle.std.proofs.Common.{◌≡◌, ℕ, List, true, false, [], ◌∷◌, refl, sym, ◌∙◌}
use Rattle.c_ast.specs.declared.items.Params.TheVariants as params'
use Rattle.c_lexer.specs.declared.token.Token.{Token}
use Rattle.c_grammar.specs.Signs.{sign_at}
use Rattle.c_grammar.specs.Syntax as s
use Rattle.c_grammar.specs.declared.signs.Sign.TheVariants as sign
use Rattle.c_grammar.specs.words.Sets.{among, no_sign, commas}
use Rattle.c_reader.specs.Bounds.{Stops}
use Rattle.c_parser.specs.inner.Shapes.{read_all_params, read_params}
use Rattle.c_grammar.proofs.Carrying.{Carries, over, widened, left_carries, right_carries, carry, carry_fails}
use Rattle.c_grammar.proofs.Families.{made}
use Rattle.c_grammar.proofs.Goods.{good_at}
use Rattle.c_grammar.proofs.Items.{good_all_params}
use Rattle.c_grammar.proofs.Parts.{takes_made, fails_made, good_made}
use Rattle.c_grammar.proofs.Steps.{passed}
use Rattle.c_grammar.proofs.Tokens.{fails_at, reads_at, real}
use Rattle.c_parser.proofs.heads.params.Goals as goal

module _ {n : ℕ} {ts : List Token} where
  at_void : among (sign.Void ∷ []) (sign_at ts) ≡ true
      → Carries (made params'.Void (λ n. s.at sign.Void)) no_sign no_sign read_params.rule commas no_sign n ts
  at_void here = over
      (left_carries (good_made (good_at sign.Void) params'.Void) (good_made good_all_params params'.List) refl refl
      here) (widened refl refl)

  at_list : among (sign.Void ∷ []) (sign_at ts) ≡ false
      → Carries (made params'.List read_all_params.rule) commas no_sign read_params.rule commas no_sign n ts
  at_list other = over
      (right_carries (good_made (good_at sign.Void) params'.Void) (good_made good_all_params params'.List) refl refl
      refl other) (widened refl refl)

pub returns-in_err-token-clause-err : goal.returns-in_err-token-clause-err
returns-in_err-token-clause-err c =
    passed c.from_residual.result (Stops read_params c.args.bounds.now c.args.left.now) c.from_residual.ensures.1
    (carry_fails (at_void (sym c.is_next.ensures ∙ c.if-is_next.true))
    (fails_made params'.Void _ (fails_at sign.Void (real sign.Void tt) c.in_err-token.ensures.err)))

pub returns-then-is_next-clause-ok : goal.returns-then-is_next-clause-ok
returns-then-is_next-clause-ok c = carry (at_void (sym c.is_next.ensures ∙ c.if-is_next.true))
    (takes_made params'.Void (reads_at sign.Void c.in_ok-token.ensures.ok))

pub returns-in_err-all-clause-err : goal.returns-in_err-all-clause-err
returns-in_err-all-clause-err c =
    passed c.from_residual-in_err-all.result (Stops read_params c.args.bounds.now c.args.left.now)
    c.from_residual-in_err-all.ensures.1
    (carry_fails (at_list (sym c.is_next.ensures ∙ c.if-is_next.false))
    (fails_made params'.List _ c.in_err-all.ensures.err))

pub returns-clause-ok : goal.returns-clause-ok
returns-clause-ok c = carry (at_list (sym c.is_next.ensures ∙ c.if-is_next.false))
    (takes_made params'.List c.in_ok-all.ensures.ok)
