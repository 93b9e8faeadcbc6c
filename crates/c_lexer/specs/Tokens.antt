-- The tokens of a text, and its first refusal (ISO/IEC 9899:2011, 6.4: the longest text that is a token is the next
-- one).
use Rattle.std.specs.Prelude.{◌≡◌, ◌≢◌, ◌≤◌, ◌<◌, ◌+◌, ℕ, Bool, List, [], ◌∷◌, length, take, drop}
use Rattle.fore_base.specs.declared.place.Place.{Place}
use Rattle.c_lexer.specs.Lexemes.{IsLexeme}
use Rattle.c_lexer.specs.Places.{place_after, is_fresh}
use Rattle.c_lexer.specs.Skips.{Skips, IsUnclosed}
use Rattle.c_lexer.specs.declared.token.TokKind.{TokKind}
use Rattle.c_lexer.specs.declared.token.Token.{Token}

-- nothing is passed over here, and no open comment begins
abbrev pub IsOther : Bool → List ℕ → Type 0
IsOther fresh rest = ((n : ℕ) → ¬ Skips fresh rest n) × ¬ IsUnclosed rest

-- the first n bytes of the rest are its next token: they are one of this kind, and no longer front is one of any kind
abbrev pub IsNext : Bool → List ℕ → TokKind → ℕ → Type 0
IsNext fresh rest kind n =
    IsOther fresh rest × (n ≤ length rest) × IsLexeme kind (take n rest)
    × ((m : ℕ) (other : TokKind) → n < m → m ≤ length rest → ¬ IsLexeme other (take m rest))

-- a byte stands here, and no front of the rest is a token
abbrev pub IsStuck : Bool → List ℕ → Type 0
IsStuck fresh rest = IsOther fresh rest × (rest ≢ []) × ((m : ℕ) (kind : TokKind) → ¬ IsLexeme kind (take m rest))

-- how the reading of a text ends
pub data Ending : Type 0 where
  whole : Ending
  no_token : Place → Ending
  unclosed : Place → Ending

-- the text from this offset on has these tokens, and then ends so
pub data Reads (text : List ℕ) : ℕ → List Token → Ending → Type 0 where
  ended : {at : ℕ} → at ≡ length text → Reads text at [] whole
  skip : {at n : ℕ} {ts : List Token} {e : Ending} → Skips (is_fresh (take at text)) (drop at text) n
      → Reads text (at + n) ts e → Reads text at ts e
  next : {at n : ℕ} {t : Token} {ts : List Token} {e : Ending}
      → IsNext (is_fresh (take at text)) (drop at text) t.kind n
      → t.text ≡ take n (drop at text) → t.at ≡ place_after (take at text) → Reads text (at + n) ts e
      → Reads text at (t ∷ ts) e
  stuck : {at : ℕ} {place : Place} → IsStuck (is_fresh (take at text)) (drop at text)
      → place ≡ place_after (take at text) → Reads text at [] (no_token place)
  open_comment : {at : ℕ} {place : Place} → IsUnclosed (drop at text) → place ≡ place_after (take at text)
      → Reads text at [] (unclosed place)

-- the text has these tokens
abbrev pub Tokens : List ℕ → List Token → Type 0
Tokens text ts = Reads text 0 ts whole

-- the first refusal of the text is that no token begins at this place
abbrev pub LacksToken : List ℕ → Place → Type 0
LacksToken text place = (ts : List Token) × Reads text 0 ts (no_token place)

-- the first refusal of the text is that the comment at this place is not closed
abbrev pub LacksClose : List ℕ → Place → Type 0
LacksClose text place = (ts : List Token) × Reads text 0 ts (unclosed place)
