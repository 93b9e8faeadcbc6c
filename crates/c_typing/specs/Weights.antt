-- What the functions of a file weigh: their statements, and what they call.
use Rattle.std.specs.Prelude.{ℕ, List, map, length, Option, Some, None}
use Rattle.c_ast.specs.declared.items.Item.{Item}
use Rattle.c_ast.specs.declared.statements.Block.{Block}
use Rattle.c_calls.specs.Weights.{weight_of}
use Rattle.c_typing.specs.BodySites.{block_places}
use Rattle.c_typing.specs.Globals.{function_heads, names_of_calls, body_named, calls_of}

abbrev pub statements_in : Option Block → ℕ
statements_in None = 0
statements_in (Some b) = length (block_places b).within

-- how many statements each body has
abbrev pub statements_of : List Item → List ℕ
statements_of items = map (λ x. statements_in (body_named x items)) (names_of_calls items)

-- what `main` weighs
abbrev pub main_weight : List Item → ℕ
main_weight items = weight_of (statements_of items) (calls_of items) (length (function_heads items))
