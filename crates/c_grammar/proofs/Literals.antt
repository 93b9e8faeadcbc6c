-- How a literal is read, and where it fails.
use Rattle.std.proofs.Common.{◌≡◌, ◌≢◌, ℕ, List, [], ◌∷◌, refl, sym, ap, subst, inl, inr}
use Rattle.fore_base.specs.declared.place.Place.{Place}
use Rattle.c_ast.specs.declared.operands.Operand.{Operand}
use Rattle.c_ast.specs.declared.operands.Operand.TheVariants as operand'
use Rattle.c_lexer.specs.declared.token.Token.{Token}
use Rattle.c_grammar.specs.words.Faults.{Alive, Fails, Takes}
use Rattle.c_grammar.specs.words.Sets.{no_sign}
use Rattle.c_grammar.specs.words.Shapes.{a_literal}
use Rattle.c_grammar.specs.Signs.{sign_of, sign_at}
use Rattle.c_grammar.specs.Syntax.{literal_part, name_of}
use Rattle.c_grammar.specs.declared.fault.SyntaxFault.{SyntaxFault}
use Rattle.c_grammar.specs.declared.fault.SyntaxFault.TheVariants.{Syntax}
use Rattle.c_grammar.specs.declared.signs.Sign.{Sign}
use Rattle.c_grammar.specs.declared.signs.Sign.TheVariants as sign
use Rattle.c_grammar.proofs.Families.{make}
use Rattle.c_grammar.proofs.Goods.{good_literal}
use Rattle.c_grammar.proofs.Parts.{fails_first}
use Rattle.c_grammar.proofs.Readings.{at_told, at_tok}
use Rattle.c_grammar.proofs.Rules.{rest_of}
use Rattle.c_grammar.proofs.Tokens.{sample, real}
use Rattle.c_grammar.specs.Hopeless.{place_at}
use Rattle.c_grammar.proofs.SignLemmas.{or_of, told_apart}

literal_only : (t : Token) (z y : List Token) (x : Operand) → literal_part (t ∷ z) y x → z ≡ y
literal_only t z y x (inl r) = ap rest_of r.read.read.0
literal_only t z y x (inr (inl r)) = ap rest_of r.read.read.0
literal_only t z y x (inr (inr (inl r))) = ap rest_of r.read.read.0
literal_only t z y x (inr (inr (inr r))) = ap rest_of r.read.read.0

module _ (n : ℕ) (ts rest : List Token) (t : Token) (is : ts ≡ t ∷ rest) where
  takes_single : (x : Operand) → ((y : List Token) → literal_part (t ∷ y) y x)
      → Takes a_literal.rule no_sign no_sign n ts rest x
  takes_single x reads = record
      { front = t ∷ []; is = is; alike = λ y h. reads y; only = λ m z y u same h r. literal_only t z y u r }

  pub takes_null : sign_of t ≡ sign.Null → Takes a_literal.rule no_sign no_sign n ts rest (operand'.Null t.at)
  takes_null s = takes_single (operand'.Null t.at) (λ y. inr (inl (make operand'.Null (at_told t sign.Null s y))))

  pub takes_true : sign_of t ≡ sign.True → Takes a_literal.rule no_sign no_sign n ts rest (operand'.True t.at)
  takes_true s = takes_single (operand'.True t.at) (λ y. inr (inr (inl (make operand'.True (at_told t sign.True s y)))))

  pub takes_false : sign_of t ≡ sign.False → Takes a_literal.rule no_sign no_sign n ts rest (operand'.False t.at)
  takes_false s = takes_single (operand'.False t.at)
      (λ y. inr (inr (inr (make operand'.False (at_told t sign.False s y)))))

  pub takes_number : (text : List ℕ) → sign_of t ≡ sign.Number → text ≡ t.text
      → Takes a_literal.rule no_sign no_sign n ts rest (operand'.Number (record { text = text; at = t.at }))
  takes_number text s same = takes_single (operand'.Number (record { text = text; at = t.at }))
      (λ y.
      inl
      (record {
        part = name_of t;
        is = ap (λ text. operand'.Number (record { text = text; at = t.at })) same;
        read = record { part = t; is = refl; read = (refl, s) };
      }))

least_literal : (n : ℕ) → Alive a_literal.rule no_sign n []
least_literal n = record {
  more = sample sign.Null ∷ [];
  tree = operand'.Null (sample sign.Null).at;
  reads = λ y h. inr (inl (make operand'.Null (at_tok sign.Null (real sign.Null tt) y)));
}

pub no_literal : (n : ℕ) (end : Place) (ts : List Token) (e : SyntaxFault) → e ≡ Syntax (place_at end ts)
    → sign_at ts ≢ sign.Null → sign_at ts ≢ sign.True → sign_at ts ≢ sign.False → sign_at ts ≢ sign.Number →
    Fails a_literal.rule no_sign no_sign no_sign n end ts e
no_literal n end ts e is null yes_ no_ num =
    subst (λ e. Fails a_literal.rule no_sign no_sign no_sign n end ts e) (sym is)
    (fails_first good_literal n end ts (least_literal n)
    (or_of _ _ (told_apart sign.Number s num)
    (or_of _ _ (told_apart sign.Null s null)
    (or_of _ _ (told_apart sign.True s yes_) (or_of _ _ (told_apart sign.False s no_) refl)))))
  where
    s : Sign
    s = sign_at ts
