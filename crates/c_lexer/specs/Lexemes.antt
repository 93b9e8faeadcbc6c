-- The texts that are tokens of a kind (ISO/IEC 9899:2011, 6.4, cut down to what programs may hold).
use Rattle.std.specs.Prelude.{◌≡◌, ◌≢◌, ◌⊎◌, ℕ, Bool, List, [], ◌∷◌, IsTrue, codes}
use Rattle.fore_base.specs.Lists.{IsIn, Every}
use Rattle.c_lexer.specs.Bytes.{backslash, newline, is_letter, is_digit, is_word_byte, is_number_byte, is_quote}
use Rattle.c_lexer.specs.declared.token.TokKind.{TokKind}
use Rattle.c_lexer.specs.declared.token.TokKind.TheVariants.{Word, Number, Mark, Quoted, Hash, Refused}

-- the first byte passes one test, and each later byte another
abbrev pub IsRun : (ℕ → Bool) → (ℕ → Bool) → List ℕ → Type 0
IsRun first later [] = ⊥
IsRun first later (b ∷ bs) = IsTrue (first b) × Every (λ c. IsTrue (later c)) bs

-- one byte, and one of these
abbrev pub IsOneOf : List ℕ → List ℕ → Type 0
IsOneOf bytes (b ∷ []) = IsIn b bytes
IsOneOf bytes text = ⊥

-- what ends a quotation that this quote began: bytes other than the quote, a backslash and a newline, or pairs of a
-- backslash and a byte other
-- than a newline, and then the quote
pub data IsQuoteRest (quote : ℕ) : List ℕ → Type 0 where
  close : {b : ℕ} → b ≡ quote → IsQuoteRest quote (b ∷ [])
  plain : {b : ℕ} {bs : List ℕ} → b ≢ quote → b ≢ backslash → b ≢ newline → IsQuoteRest quote bs
      → IsQuoteRest quote (b ∷ bs)
  escape : {b c : ℕ} {bs : List ℕ} → b ≡ backslash → c ≢ newline → IsQuoteRest quote bs → IsQuoteRest quote (b ∷ c ∷ bs)

-- a quote and what ends the quotation that it begins: a string literal (6.4.5) or a character constant (6.4.4.4)
abbrev pub IsQuotation : List ℕ → Type 0
IsQuotation [] = ⊥
IsQuotation (b ∷ bs) = IsTrue (is_quote b) × IsQuoteRest b bs

-- the punctuators of two bytes that programs may use (6.4.6)
abbrev pub long_marks : List (List ℕ)
long_marks = codes "->" ∷ codes "==" ∷ codes "!=" ∷ codes "&&" ∷ codes "||" ∷ []

-- the punctuators of one byte that programs may use
abbrev pub short_marks : List ℕ
short_marks = codes "{}();,*=!"

-- the punctuators that no program may use
abbrev pub refused_marks : List ℕ
refused_marks = codes "&[].+-/%<>~^|?:"

-- the text is a token of this kind
abbrev pub IsLexeme : TokKind → List ℕ → Type 0
IsLexeme Word text = IsRun is_letter is_word_byte text
IsLexeme Number text = IsRun is_digit is_number_byte text
IsLexeme Mark text = IsIn text long_marks ⊎ IsOneOf short_marks text
IsLexeme Quoted text = IsQuotation text
IsLexeme Hash text = text ≡ codes "#"
IsLexeme Refused text = IsOneOf refused_marks text
