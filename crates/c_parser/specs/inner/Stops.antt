-- Where the reading of a whole text stops, if no token is refused.
use Rattle.std.specs.Prelude.{List}
use Rattle.fore_base.specs.declared.place.Place.{Place}
use Rattle.c_lexer.specs.declared.token.Token.{Token}
use Rattle.c_grammar.specs.Hopeless.{IsSyntaxAt, IsDeepAt}
use Rattle.c_grammar.specs.Items.{unit}
use Rattle.c_grammar.specs.declared.fault.SyntaxFault.{SyntaxFault}
use Rattle.c_grammar.specs.declared.fault.SyntaxFault.TheVariants.{Refused, Syntax, Deep, Memory}

abbrev pub IsStop : List Token → Place → SyntaxFault → Type 0
IsStop ts end (Refused rule at) = ⊥
IsStop ts end (Syntax at) = IsSyntaxAt unit 64 end ts at
IsStop ts end (Deep at) = IsDeepAt unit 64 ts at
IsStop ts end Memory = Unit {0}
