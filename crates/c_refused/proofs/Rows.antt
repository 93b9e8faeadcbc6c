-- Values of the table of refused tokens, worked out by hand: each word, punctuator and kind of token with its rule.
use Rattle.std.proofs.Common.{◌≡◌, ℕ, ◌+◌, List, [], ◌∷◌, Option, Some, None, map, refl}
use Rattle.std.specs.Prelude.{codes}
use Rattle.fore_base.specs.declared.place.Place.{Place}
use Rattle.c_lexer.specs.declared.token.TokKind.{TokKind}
use Rattle.c_lexer.specs.declared.token.TokKind.TheVariants.{Word, Number, Mark, Quoted, Hash, Refused}
use Rattle.c_lexer.specs.declared.token.Token.{Token}
use Rattle.c_refused.specs.Refused.{rule_as, rule_of, NoneRefused, IsFirstRefused}

abbrev rules_of : TokKind → List (List ℕ) → List (Option ℕ)
rules_of kind texts = map (rule_as kind) texts

-- unions, other control
union_is_refused : rule_as Word (codes "union") ≡ Some 3
union_is_refused = refl

control_is_refused : rules_of Word (codes "goto" ∷ codes "switch" ∷ codes "case" ∷ codes "default" ∷ []) ≡ Some 5
    ∷ Some 5 ∷ Some 5 ∷ Some 5 ∷ []
control_is_refused = refl

-- the base types other than `int`
types_are_refused : rules_of Word (codes "char" ∷ codes "short" ∷ codes "long" ∷ codes "float" ∷ codes "double" ∷ [])
    ≡ Some 6 ∷ Some 6 ∷ Some 6 ∷ Some 6 ∷ Some 6 ∷ []
types_are_refused = refl

more_types_are_refused :
    rules_of Word (codes "signed" ∷ codes "unsigned" ∷ codes "bool" ∷ codes "_Bool" ∷ codes "_Complex" ∷ []) ≡ Some 6
    ∷ Some 6 ∷ Some 6 ∷ Some 6 ∷ Some 6 ∷ []
more_types_are_refused = refl

-- specifiers and qualifiers other than `extern`
specifiers_are_refused : rules_of Word (codes "static" ∷ codes "volatile" ∷ codes "const" ∷ codes "register" ∷ [])
    ≡ Some 9 ∷ Some 9 ∷ Some 9 ∷ Some 9 ∷ []
specifiers_are_refused = refl

more_specifiers_are_refused : rules_of Word (codes "auto" ∷ codes "inline" ∷ codes "restrict" ∷ codes "typedef" ∷ [])
    ≡ Some 9 ∷ Some 9 ∷ Some 9 ∷ Some 9 ∷ []
more_specifiers_are_refused = refl

-- words of the language, names, and a name that begins as a refused word does
words_pass : rules_of Word (codes "int" ∷ codes "extern" ∷ codes "x" ∷ codes "unions" ∷ codes "Union" ∷ [])
    ≡ None ∷ None ∷ None ∷ None ∷ None ∷ []
words_pass = refl

-- a refused word is refused as a word alone
quoted_words_are_quotations : rule_as Quoted (codes "union") ≡ Some 7
quoted_words_are_quotations = refl

marks_are_refused : rules_of Refused (codes "&" ∷ codes "[" ∷ codes "]" ∷ codes ":" ∷ []) ≡ Some 1 ∷ Some 2 ∷ Some 2
    ∷ Some 5 ∷ []
marks_are_refused = refl

operators_are_refused : rules_of Refused (codes "+" ∷ codes "-" ∷ codes "/" ∷ codes "%" ∷ codes "<" ∷ codes ">" ∷ [])
    ≡ Some 4 ∷ Some 4 ∷ Some 4 ∷ Some 4 ∷ Some 4 ∷ Some 4 ∷ []
operators_are_refused = refl

more_operators_are_refused : rules_of Refused (codes "~" ∷ codes "^" ∷ codes "|" ∷ codes "?" ∷ codes "." ∷ []) ≡ Some 4
    ∷ Some 4 ∷ Some 4 ∷ Some 4 ∷ Some 4 ∷ []
more_operators_are_refused = refl

-- the marks of the language, a quotation and a number sign
other_kinds : rule_as Mark (codes "&&") ∷ rule_as Mark (codes "->") ∷ rule_as Quoted (codes "''")
    ∷ rule_as Hash (codes "#") ∷ [] ≡ None ∷ None ∷ Some 7 ∷ Some 8 ∷ []
other_kinds = refl

-- 0 to 15 pass, as they are written without a leading zero, a prefix or a suffix
numbers_pass : rules_of Number
    (codes "0" ∷ codes "1" ∷ codes "2" ∷ codes "3" ∷ codes "4" ∷ codes "5" ∷ codes "6" ∷ codes "7" ∷ []) ≡ None ∷ None
    ∷ None ∷ None ∷ None ∷ None ∷ None ∷ None ∷ []
numbers_pass = refl

more_numbers_pass : rules_of Number
    (codes "8" ∷ codes "9" ∷ codes "10" ∷ codes "11" ∷ codes "12" ∷ codes "13" ∷ codes "14" ∷ codes "15" ∷ [])
    ≡ None ∷ None ∷ None ∷ None ∷ None ∷ None ∷ None ∷ None ∷ []
more_numbers_pass = refl

numbers_are_refused : rules_of Number (codes "16" ∷ codes "07" ∷ codes "00" ∷ codes "0x1" ∷ codes "1u" ∷ []) ≡ Some 10
    ∷ Some 10 ∷ Some 10 ∷ Some 10 ∷ Some 10 ∷ []
numbers_are_refused = refl

abbrev at : ℕ → Place
at n = record { offset = n; line = 1; column = n + 1 }

abbrev token : TokKind → List ℕ → ℕ → Token
token kind text n = record { kind = kind; text = text; at = at n }

-- x & [ : the first of the two counts
first_of_two : IsFirstRefused
    (token Word (codes "x") 0 ∷ token Refused (codes "&") 2 ∷ token Refused (codes "[") 4 ∷ [])
    (record { rule = 1; at = at 2 })
unfolding rule_of
first_of_two = record {
  before = token Word (codes "x") 0 ∷ [];
  token = token Refused (codes "&") 2;
  after = token Refused (codes "[") 4 ∷ [];
  are = refl;
  none = (refl, tt);
  rule = refl;
  at = refl;
}

-- x ;
none_of_two : NoneRefused (token Word (codes "x") 0 ∷ token Mark (codes ";") 2 ∷ [])
unfolding rule_of
none_of_two = (refl, (refl, tt))
