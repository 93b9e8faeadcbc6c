-- The right answer of the parser.
use Rattle.std.specs.Prelude.{◌≡◌, ◌≤◌, List, Option, slice_get}
use Rattle.std.specs.Option.{option_map}
use Rattle.fore_base.specs.declared.place.Place.{Place}
use Rattle.c_ast.specs.Depths.{depth_of_items}
use Rattle.c_ast.specs.declared.items.Unit as whole
use Rattle.c_lexer.specs.declared.token.Token.{Token}
use Rattle.c_refused.specs.Refused.{NoneRefused, IsFirstRefused}
use Rattle.c_grammar.specs.Hopeless.{IsSyntaxAt, IsDeepAt}
use Rattle.c_grammar.specs.Items.{unit}
use Rattle.c_grammar.specs.Units.{IsUnit}
use Rattle.c_grammar.specs.declared.fault.SyntaxFault.{SyntaxFault}
use Rattle.c_grammar.specs.declared.fault.SyntaxFault.TheVariants.{Refused, Syntax, Deep, Memory}

abbrev place_of : Token → Place
place_of t = t.at

-- the place of token 65,536, if there is one
abbrev pub over_of : List Token → Option Place
over_of ts = option_map place_of (slice_get ts 65535)

-- no token is refused, and the tokens are those of this tree, in which no more than 64 levels are open at once
abbrev pub IsParsed : List Token → Place → whole.Unit → Type 0
IsParsed ts end u = NoneRefused ts × IsUnit ts u.items × (depth_of_items u.items ≤ 64) × (u.over ≡ over_of ts)
    × (u.end ≡ end)

-- why the tokens are no unit of at most 64 levels: the first refused token; else the hopeless token, or the one that
-- opens level 65
abbrev pub IsFault : List Token → Place → SyntaxFault → Type 0
IsFault ts end (Refused rule at) = IsFirstRefused ts (record { rule = rule; at = at })
IsFault ts end (Syntax at) = NoneRefused ts × IsSyntaxAt unit 64 end ts at
IsFault ts end (Deep at) = NoneRefused ts × IsDeepAt unit 64 ts at
IsFault ts end Memory = Unit {0}
