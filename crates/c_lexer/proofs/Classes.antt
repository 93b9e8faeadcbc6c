-- What the first byte of a text tells about it.
use Rattle.std.proofs.Common.{◌≡◌, ◌≢◌, ℕ, Bool, true, false, cond, eqb, List, [], ◌∷◌, refl, arith, inl, inr, ◌⊎◌}
use Rattle.std.proofs.lemmas.Bool.{eqb-true}
use Rattle.std.proofs.lemmas.Bool.Decides.{nat_tests}
use Rattle.fore_base.specs.Lists.{IsIn}
use Rattle.fore_base.proofs.ListLemmas.{every_in}
use Rattle.c_lexer.specs.Bytes.{is_letter, is_digit, is_space, is_quote}
use Rattle.c_lexer.specs.Lexemes.{IsLexeme, long_marks, short_marks, refused_marks}
use Rattle.c_lexer.specs.inner.Steps.{class_of}
use Rattle.c_lexer.specs.declared.class.Class.{Class}
use Rattle.c_lexer.specs.declared.class.Class.TheVariants.{Space, Letter, Digit, Quote, Sharp, Sign}
use Rattle.c_lexer.specs.declared.token.TokKind.{TokKind}
use Rattle.c_lexer.specs.declared.token.TokKind.TheVariants.{Word, Number, Mark, Quoted, Hash, Refused}

letter_no_space : (b : ℕ) → is_letter b ≡ true → is_space b ≡ false
unfolding is_letter is_space
letter_no_space b h = grind (arith, nat_tests)

digit_no_space : (b : ℕ) → is_digit b ≡ true → (is_space b ≡ false) × (is_letter b ≡ false)
unfolding is_digit is_letter is_space
digit_no_space b h = (grind (arith, nat_tests), grind (arith, nat_tests))

quote_cases : (b : ℕ) → is_quote b ≡ true → (b ≡ 34) ⊎ (b ≡ 39)
unfolding is_quote
quote_cases b h = grind (arith, nat_tests)

-- a quote is no backslash and no newline
pub quote_plain : (b : ℕ) → is_quote b ≡ true → (b ≢ 92) × (b ≢ 10)
quote_plain b h = elim (quote_cases b h) [ inl e ↦ (omega arith, omega arith) | inr e ↦ (omega arith, omega arith) ]

pub space_class : (b : ℕ) → is_space b ≡ true → class_of b ≡ Space
space_class b h = rw h refl

pub letter_class : (b : ℕ) → is_letter b ≡ true → class_of b ≡ Letter
letter_class b h = rw (letter_no_space b h, h) refl

pub digit_class : (b : ℕ) → is_digit b ≡ true → class_of b ≡ Digit
digit_class b h = rw ((digit_no_space b h).0, (digit_no_space b h).1, h) refl

pub quote_class : (b : ℕ) → is_quote b ≡ true → class_of b ≡ Quote
unfolding is_space is_letter is_digit is_quote
quote_class b h = elim (quote_cases b h) [ inl e ↦ rw e refl | inr e ↦ rw e refl ]

pub sharp_class : (b : ℕ) → 35 ≡ b → class_of b ≡ Sharp
unfolding is_space is_letter is_digit is_quote
sharp_class b e = rw (← e) refl

pub slash_class : (b : ℕ) → 47 ≡ b → class_of b ≡ Sign
unfolding is_space is_letter is_digit is_quote
slash_class b e = rw (← e) refl

first_of : List ℕ → ℕ
first_of [] = 0
first_of (b ∷ bs) = b

-- what each class tells
abbrev pub Tells : ℕ → Class → Type 0
Tells b Space = is_space b ≡ true
Tells b Letter = is_letter b ≡ true
Tells b Digit = is_digit b ≡ true
Tells b Quote = is_quote b ≡ true
Tells b Sharp = b ≡ 35
Tells b Sign = Unit {0}

pub class_tells : (b : ℕ) → Tells b (class_of b)
class_tells b = by_tests (is_space b) (is_letter b) (is_digit b) (is_quote b) (eqb b 35) refl refl refl refl refl
  where
    by_tests : (s l d q h : Bool) → is_space b ≡ s → is_letter b ≡ l → is_digit b ≡ d → is_quote b ≡ q → eqb b 35 ≡ h →
        Tells b (cond s Space (cond l Letter (cond d Digit (cond q Quote (cond h Sharp Sign)))))
    by_tests true l d q h es el ed eq eh = es
    by_tests false true d q h es el ed eq eh = el
    by_tests false false true q h es el ed eq eh = ed
    by_tests false false false true h es el ed eq eh = eq
    by_tests false false false false true es el ed eq eh = eqb-true b 35 eh
    by_tests false false false false false es el ed eq eh = tt

-- the class of the first byte of each kind of token
abbrev pub class_for : TokKind → Class
class_for Word = Letter
class_for Number = Digit
class_for Mark = Sign
class_for Quoted = Quote
class_for Hash = Sharp
class_for Refused = Sign

long_class : (p : List ℕ) → IsIn p long_marks → class_of (first_of p) ≡ Sign
unfolding is_space is_letter is_digit is_quote first_of
long_class p i = every_in (λ q. class_of (first_of q) ≡ Sign) long_marks p (refl, (refl, (refl, (refl, (refl, tt))))) i

short_class : (b : ℕ) → IsIn b short_marks → class_of b ≡ Sign
unfolding is_space is_letter is_digit is_quote
short_class b i = every_in (λ q. class_of q ≡ Sign) short_marks b
    (refl, (refl, (refl, (refl, (refl, (refl, (refl, (refl, (refl, tt))))))))) i

refused_class : (b : ℕ) → IsIn b refused_marks → class_of b ≡ Sign
unfolding is_space is_letter is_digit is_quote
refused_class b i =
    every_in (λ q. class_of q ≡ Sign) refused_marks b (
      refl,
      (
        refl,
        (refl, (refl, (refl, (refl, (refl, (refl, (refl, (refl, (refl, (refl, (refl, (refl, (refl, tt))))))))))))),
      ),
    ) i

pub lexeme_class : (kind : TokKind) (b : ℕ) (bs : List ℕ) → IsLexeme kind (b ∷ bs) → class_of b ≡ class_for kind
unfolding first_of
lexeme_class Word b bs h = letter_class b h.0
lexeme_class Number b bs h = digit_class b h.0
lexeme_class Mark b bs (inl h) = long_class (b ∷ bs) h
lexeme_class Mark b [] (inr h) = short_class b h
lexeme_class Mark b (c ∷ cs) (inr h) = absurd h
lexeme_class Quoted b bs h = quote_class b h.0
lexeme_class Hash b bs h = sharp_class b cc
lexeme_class Refused b [] h = refused_class b h
lexeme_class Refused b (c ∷ cs) h = absurd h

-- no token is empty
pub lexeme_not_empty : (kind : TokKind) → IsLexeme kind [] → ⊥
lexeme_not_empty Word h = h
lexeme_not_empty Number h = h
lexeme_not_empty Mark (inl h) =
    every_in (λ (q : List ℕ). q ≡ [] → ⊥) long_marks [] (λ e. cc, (λ e. cc, (λ e. cc, (λ e. cc, (λ e. cc, tt))))) h refl
lexeme_not_empty Mark (inr h) = h
lexeme_not_empty Quoted h = h
lexeme_not_empty Hash h = cc
lexeme_not_empty Refused h = h
