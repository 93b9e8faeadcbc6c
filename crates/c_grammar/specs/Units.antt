-- Whole texts.
use Rattle.std.specs.Prelude.{ℕ, List, []}
use Rattle.c_ast.specs.declared.items.Item.{Item}
use Rattle.c_lexer.specs.declared.token.Token.{Token}
use Rattle.c_grammar.specs.Hopeless.{IsWhole}
use Rattle.c_grammar.specs.Items.{unit}

-- the tokens are those of these items
abbrev pub IsUnit : List Token → List Item → Type 0
IsUnit = IsWhole unit

-- the same, with at most n levels open at once
abbrev pub IsUnitWithin : ℕ → List Token → List Item → Type 0
IsUnitWithin n ts items = unit n ts [] items
