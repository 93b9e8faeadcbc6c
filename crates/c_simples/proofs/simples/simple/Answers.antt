use Rattle.std.proofs.Common.{◌≡◌, ℕ, List, true, false, [], ◌∷◌, refl, sym, ◌∙◌}
use Rattle.c_lexer.specs.declared.token.Token.{Token}
use Rattle.c_grammar.specs.Signs.{sign_at}
use Rattle.c_grammar.specs.Syntax as s
use Rattle.c_grammar.specs.declared.signs.Sign.TheVariants as sign
use Rattle.c_grammar.specs.words.Parted.{simple_word}
use Rattle.c_grammar.specs.words.Sets.{among, names, no_sign, operand_goes_on}
use Rattle.c_simples.specs.Shapes.{read_free, read_simple, read_word_simple}
use Rattle.c_grammar.proofs.Carrying.{Carries, over, widened, same_carries, left_carries, right_carries, carried_ok}
use Rattle.c_grammar.proofs.Carrying.{carried_err}
use Rattle.c_grammar.proofs.Goods.{named, good_at, good_name}
use Rattle.c_grammar.proofs.Parts.{good_made}
use Rattle.c_grammar.proofs.Rules.{Good}
use Rattle.c_grammar.proofs.Statements.{good_after, good_closed_path, same_simple}
use Rattle.c_grammar.proofs.Steps.{good_pair}
use Rattle.c_simples.proofs.simples.simple.Goals as goal

good_word : Good read_word_simple.rule names operand_goes_on no_sign false
good_word = named names operand_goes_on no_sign (good_made (good_pair good_name good_after refl) simple_word) refl refl
    refl

good_free : Good read_free.rule (among (sign.Free ∷ [])) no_sign no_sign false
good_free = named (among (sign.Free ∷ [])) no_sign no_sign
    (good_made (good_pair (good_at sign.Free) good_closed_path refl) s.free_of) refl refl refl

module _ {n : ℕ} {ts : List Token} where
  at_word : names (sign_at ts) ≡ true
      → Carries read_word_simple.rule operand_goes_on no_sign read_simple.rule operand_goes_on no_sign n ts
  at_word here = over (left_carries good_word good_free refl refl here)
      (over (widened refl refl) (same_carries same_simple))

  at_free : names (sign_at ts) ≡ false
      → Carries read_free.rule no_sign no_sign read_simple.rule operand_goes_on no_sign n ts
  at_free other = over (right_carries good_word good_free refl refl refl other)
      (over (widened refl refl) (same_carries same_simple))

pub returns-then-is_next-clause-ok : goal.returns-then-is_next-clause-ok
returns-then-is_next-clause-ok c =
    carried_ok (at_word (sym c.is_next.ensures ∙ c.if-is_next.true)) c.word_simple.result (λ r. r.1.now) (λ r. r.0)
    c.word_simple.ensures.ok

pub returns-then-is_next-clause-err : goal.returns-then-is_next-clause-err
returns-then-is_next-clause-err c =
    carried_err (at_word (sym c.is_next.ensures ∙ c.if-is_next.true)) _ c.word_simple.result c.word_simple.ensures.err

pub returns-clause-ok : goal.returns-clause-ok
returns-clause-ok c =
    carried_ok (at_free (sym c.is_next.ensures ∙ c.if-is_next.false)) c.free.result (λ r. r.1.now) (λ r. r.0)
    c.free.ensures.ok

pub returns-clause-err : goal.returns-clause-err
returns-clause-err c =
    carried_err (at_free (sym c.is_next.ensures ∙ c.if-is_next.false)) _ c.free.result c.free.ensures.err
