-- Readings of tokens that are made for it.
use Rattle.std.proofs.Common.{◌≡◌, ◌≢◌, ℕ, List, [], ◌∷◌, refl, inl, inr}
use Rattle.c_ast.specs.declared.operands.Call.{Call}
use Rattle.c_ast.specs.declared.operands.Operand.TheVariants as operand'
use Rattle.c_lexer.specs.declared.token.Token.{Token}
use Rattle.c_grammar.specs.Grammar.{Rule, token}
use Rattle.c_grammar.specs.Signs.{sign_of}
use Rattle.c_grammar.specs.Syntax.{at, at_of, operand_with}
use Rattle.c_grammar.specs.declared.signs.Sign.{Sign}
use Rattle.c_grammar.specs.declared.signs.Sign.TheVariants as sign
use Rattle.c_grammar.specs.declared.signs.Sign.TheVariants.{End}
use Rattle.c_grammar.specs.words.Faults.{Alive}
use Rattle.c_grammar.specs.words.Sets.{no_sign}
use Rattle.c_grammar.proofs.Families.{make}
use Rattle.c_grammar.proofs.Tokens.{sample, sampled, real}

pub tok : (s : Sign) → s ≢ End → (y : List Token) → token s (sample s ∷ y) y (sample s)
tok s h y = (refl, sampled s h)

pub at_told : (t : Token) (s : Sign) → sign_of t ≡ s → (y : List Token) → at s (t ∷ y) y t.at
at_told t s told y = make {x = t} at_of (refl, told)

pub at_tok : (s : Sign) → s ≢ End → (y : List Token) → at s (sample s ∷ y) y (sample s).at
at_tok s h y = make at_of (tok s h y)

-- `NULL` is an operand, whatever a call is
pub null_operand : (C : Rule Call) (n : ℕ) → Alive (λ n. operand_with (C n)) no_sign n []
null_operand C n = record {
  more = sample sign.Null ∷ [];
  tree = operand'.Null (sample sign.Null).at;
  reads = λ y h. inr (inr (inr (inl (make operand'.Null (at_tok sign.Null (real sign.Null tt) y)))));
}
