-- The marks of one and two bytes.
use Rattle.std.proofs.Common.{◌≡◌, ℕ, Bool, true, false, cond, eqb, ◌||◌, List, [], ◌∷◌, length, get_or, refl, sym, ◌∙◌}
use Rattle.std.proofs.Common.{arith, inl, inr}
use Rattle.std.specs.List.{list_any}
use Rattle.std.proofs.lemmas.Bool.{eqb-true, false≢true}
use Rattle.fore_base.specs.Lists.{IsIn}
use Rattle.c_lexer.specs.Lexemes.{IsLexeme, long_marks, short_marks, refused_marks}
use Rattle.c_lexer.specs.inner.Steps.{class_of, is_long_mark}
use Rattle.c_lexer.specs.declared.class.Class.TheVariants.{Sign}
use Rattle.c_lexer.specs.declared.token.TokKind.{TokKind}
use Rattle.c_lexer.specs.declared.token.TokKind.TheVariants.{Word, Number, Mark, Quoted, Hash, Refused}
use Rattle.fore_base.proofs.ListLemmas.{every_in, in_number}
use Rattle.c_lexer.proofs.Classes.{lexeme_class}

-- the test of the code for a mark of two bytes
pub test_from_long : (a b : ℕ) → IsIn (a ∷ (b ∷ [])) long_marks → is_long_mark a b ≡ true
test_from_long a b i =
    every_in (λ (p : List ℕ). is_long_mark (get_or p 0 0) (get_or p 1 0) ≡ true) long_marks (a ∷ (b ∷ []))
    (refl, (refl, (refl, (refl, (refl, tt))))) i

pair_is : (a b x y : ℕ) → a ≡ x → b ≡ y → ◌≡◌ {A = List ℕ} (a ∷ (b ∷ [])) (x ∷ (y ∷ []))
pair_is a b x y p q = cc

pub long_from_test : (a b : ℕ) → is_long_mark a b ≡ true → IsIn (a ∷ (b ∷ [])) long_marks
long_from_test a b h = by_tests (eqb a 45) (eqb a 61) (eqb a 33) (eqb a 38) (eqb a 124) refl refl refl refl refl h
  where
    by_tests : (m e n u v : Bool) → eqb a 45 ≡ m → eqb a 61 ≡ e → eqb a 33 ≡ n → eqb a 38 ≡ u → eqb a 124 ≡ v →
        cond m (eqb b 62) (cond (e || n) (eqb b 61) (cond u (eqb b 38) (cond v (eqb b 124) false))) ≡ true
        → IsIn (a ∷ (b ∷ [])) long_marks
    by_tests true e n u v em ee en eu ev k = inl (pair_is a b 45 62 (eqb-true a 45 em) (eqb-true b 62 k))
    by_tests false true n u v em ee en eu ev k = inr (inl (pair_is a b 61 61 (eqb-true a 61 ee) (eqb-true b 61 k)))
    by_tests false false true u v em ee en eu ev k =
        inr (inr (inl (pair_is a b 33 61 (eqb-true a 33 en) (eqb-true b 61 k))))
    by_tests false false false true v em ee en eu ev k =
        inr (inr (inr (inl (pair_is a b 38 38 (eqb-true a 38 eu) (eqb-true b 38 k)))))
    by_tests false false false false true em ee en eu ev k =
        inr (inr (inr (inr (inl (pair_is a b 124 124 (eqb-true a 124 ev) (eqb-true b 124 k))))))
    by_tests false false false false false em ee en eu ev k = absurd (false≢true k)

-- a second byte of a mark is not 0
pub long_second : (a : ℕ) → is_long_mark a 0 ≡ true → ⊥
long_second a h = every_in (λ (p : List ℕ). get_or p 1 0 ≡ 0 → ⊥) long_marks (a ∷ (0 ∷ []))
    (λ e. cc, (λ e. cc, (λ e. cc, (λ e. cc, (λ e. cc, tt))))) (long_from_test a 0 h) refl

pub one_not_long : (a : ℕ) → IsIn (a ∷ []) long_marks → ⊥
one_not_long a i = every_in (λ (p : List ℕ). length p ≡ 1 → ⊥) long_marks (a ∷ [])
    (λ e. cc, (λ e. cc, (λ e. cc, (λ e. cc, (λ e. cc, tt))))) i refl

three_not_long : (a b c : ℕ) (cs : List ℕ) → IsIn (a ∷ (b ∷ (c ∷ cs))) long_marks → ⊥
three_not_long a b c cs i =
    let e = every_in (λ (p : List ℕ). length p ≡ 2) long_marks (a ∷ (b ∷ (c ∷ cs)))
    (refl, (refl, (refl, (refl, (refl, tt))))) i in absurd (omega (arith, e))

-- a token that begins with a sign has at most two bytes
pub sign_short : (kind : TokKind) (a b c : ℕ) (cs : List ℕ) → class_of a ≡ Sign → IsLexeme kind (a ∷ (b ∷ (c ∷ cs))) → ⊥
sign_short Word a b c cs e h = let k = lexeme_class Word a (b ∷ (c ∷ cs)) h in cc
sign_short Number a b c cs e h = let k = lexeme_class Number a (b ∷ (c ∷ cs)) h in cc
sign_short Mark a b c cs e (inl h) = three_not_long a b c cs h
sign_short Mark a b c cs e (inr h) = h
sign_short Quoted a b c cs e h = let k = lexeme_class Quoted a (b ∷ (c ∷ cs)) h in cc
sign_short Hash a b c cs e h = let k = lexeme_class Hash a (b ∷ (c ∷ cs)) h in cc
sign_short Refused a b c cs e h = h

-- of two bytes it is a mark
pub sign_pair : (kind : TokKind) (a b : ℕ) → class_of a ≡ Sign → is_long_mark a b ≡ false → IsLexeme kind (a ∷ (b ∷ []))
    → ⊥
sign_pair Word a b e f h = let k = lexeme_class Word a (b ∷ []) h in cc
sign_pair Number a b e f h = let k = lexeme_class Number a (b ∷ []) h in cc
sign_pair Mark a b e f (inl h) = false≢true (sym f ∙ test_from_long a b h)
sign_pair Mark a b e f (inr h) = h
sign_pair Quoted a b e f h = let k = lexeme_class Quoted a (b ∷ []) h in cc
sign_pair Hash a b e f h = let k = lexeme_class Hash a (b ∷ []) h in cc
sign_pair Refused a b e f h = h

-- of one byte it is a mark or a refused one
pub sign_single : (kind : TokKind) (a : ℕ) → class_of a ≡ Sign → list_any (λ x. eqb x a) short_marks ≡ false
    → list_any (λ x. eqb x a) refused_marks ≡ false →
    IsLexeme kind (a ∷ []) → ⊥
sign_single Word a e f g h = let k = lexeme_class Word a [] h in cc
sign_single Number a e f g h = let k = lexeme_class Number a [] h in cc
sign_single Mark a e f g (inl h) = one_not_long a h
sign_single Mark a e f g (inr h) = false≢true (sym f ∙ in_number a short_marks h)
sign_single Quoted a e f g h = let k = lexeme_class Quoted a [] h in cc
sign_single Hash a e f g h = let k = lexeme_class Hash a [] h in cc
sign_single Refused a e f g h = false≢true (sym g ∙ in_number a refused_marks h)
