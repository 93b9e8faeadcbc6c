-- The names of an enumeration, one by one.
use Rattle.std.specs.Prelude.{◌≡◌, ℕ, List, [], ◌∷◌, Option, Some, None}
use Rattle.fore_base.specs.declared.place.Place.{Place}
use Rattle.c_ast.specs.declared.operands.Name.{Name}
use Rattle.c_lexer.specs.declared.token.Token.{Token}
use Rattle.c_grammar.specs.Items.{more_names}
use Rattle.c_grammar.specs.Signs.{sign_of}
use Rattle.c_grammar.specs.Syntax.{name_of}
use Rattle.c_grammar.specs.declared.fault.SyntaxFault.{SyntaxFault}
use Rattle.c_grammar.specs.declared.signs.Sign.TheVariants as sign
use Rattle.c_grammar.specs.words.Faults.{Takes, Fails}
use Rattle.c_grammar.specs.words.Sets.{no_sign}

-- the end of the names, or a comma and one more
abbrev pub ValueStep : ℕ → List Token → List Token → Option Name → Type 0
ValueStep n ts rest None = (p : List Name × (Option Token × Token)) × (p.0 ≡ [])
    × Takes (λ n. more_names) no_sign no_sign n ts rest p
ValueStep n ts rest (Some x) = (t : Token) × (w : Token) × (ts ≡ t ∷ (w ∷ rest)) × (sign_of t ≡ sign.Comma)
    × (sign_of w ≡ sign.Id) × (x ≡ name_of w)

-- neither
abbrev pub ValueStops : ℕ → Place → List Token → SyntaxFault → Type 0
ValueStops n end ts e = Fails (λ n. more_names) no_sign no_sign no_sign n end ts e
