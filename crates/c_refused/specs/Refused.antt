-- The tokens that no program may have, each with the number of the rule that refuses it.
use Rattle.std.specs.Prelude.{◌≡◌, ℕ, Bool, false, List, [], ◌∷◌, ◌++◌, ◌||◌, Option, Some, None, nat_eq, codes}
use Rattle.std.specs.Prelude.{if◌then◌else◌}
use Rattle.std.specs.Cmp.Lexicographic.{pointwise}
use Rattle.fore_base.specs.Lists.{Every}
use Rattle.c_lexer.specs.declared.token.TokKind.{TokKind}
use Rattle.c_lexer.specs.declared.token.TokKind.TheVariants.{Word, Number, Mark, Quoted, Hash, Refused}
use Rattle.c_lexer.specs.declared.token.Token.{Token}
use Rattle.c_refused.specs.declared.refused.Refusal.{Refusal}

-- the text is one of these
abbrev pub is_among : List (List ℕ) → List ℕ → Bool
is_among [] text = false
is_among (t ∷ ts) text = pointwise nat_eq t text || is_among ts text

-- a rule with the texts that it refuses
abbrev pub Line : Type 0
Line = ℕ × List (List ℕ)

-- words of other parts of the language (ISO/IEC 9899:2011, 6.4.1): unions, other control, other base types, other
-- specifiers and qualifiers
abbrev pub words : List Line
words =
    (3, codes "union" ∷ [])
    ∷ (5, codes "goto" ∷ codes "switch" ∷ codes "case" ∷ codes "default" ∷ [])
    ∷ (
      6,
      codes "char" ∷ codes "short" ∷ codes "long" ∷ codes "float" ∷ codes "double" ∷ codes "signed" ∷ codes "unsigned"
          ∷ codes "bool" ∷ codes "_Bool" ∷ codes "_Complex" ∷ [],
    )
    ∷ (
      9,
      codes "static" ∷ codes "volatile" ∷ codes "const" ∷ codes "register" ∷ codes "auto" ∷ codes "inline"
          ∷ codes "restrict" ∷ codes "typedef" ∷ [],
    )
    ∷ []

-- punctuators of other parts of the language (6.4.6): addresses, arrays, arithmetic, comparison by size and members,
-- labels
abbrev pub marks : List Line
marks =
    (1, codes "&" ∷ [])
    ∷ (2, codes "[" ∷ codes "]" ∷ [])
    ∷ (
      4,
      codes "+" ∷ codes "-" ∷ codes "/" ∷ codes "%" ∷ codes "<" ∷ codes ">" ∷ codes "~" ∷ codes "^" ∷ codes "|"
          ∷ codes "?" ∷ codes "." ∷ [],
    )
    ∷ (5, codes ":" ∷ [])
    ∷ []

-- the numbers that a program may have: 0 to 15, in decimal and without leading zeros
abbrev pub numbers : List (List ℕ)
numbers =
    codes "0" ∷ codes "1" ∷ codes "2" ∷ codes "3" ∷ codes "4" ∷ codes "5" ∷ codes "6" ∷ codes "7"
    ∷ codes "8" ∷ codes "9" ∷ codes "10" ∷ codes "11" ∷ codes "12" ∷ codes "13" ∷ codes "14" ∷ codes "15" ∷ []

-- the rule that refuses a text, of these lines
abbrev pub rule_in : List Line → List ℕ → Option ℕ
rule_in [] text = None
rule_in (line ∷ lines) text = if is_among line.1 text then Some line.0 else rule_in lines text

-- the rule that refuses a token of this kind and text: 7 a quotation, 8 a number sign, 10 another number
abbrev pub rule_as : TokKind → List ℕ → Option ℕ
rule_as Word text = rule_in words text
rule_as Number text = if is_among numbers text then None else Some 10
rule_as Mark text = None
rule_as Quoted text = Some 7
rule_as Hash text = Some 8
rule_as Refused text = rule_in marks text

-- the rule that refuses a token
unfoldable pub rule_of : Token → Option ℕ
rule_of t = rule_as t.kind t.text

-- none of the tokens is refused
abbrev pub NoneRefused : List Token → Type 0
NoneRefused ts = Every (λ t. rule_of t ≡ None) ts

-- the first token that is refused is refused by this rule, and stands at this place
pub record IsFirstRefused (ts : List Token) (refusal : Refusal) : Type 0 where
  pub before : List Token
  pub token : Token
  pub after : List Token
  pub are : ts ≡ before ++ token ∷ after
  pub none : NoneRefused before
  pub rule : rule_of token ≡ Some refusal.rule
  pub at : token.at ≡ refusal.at
