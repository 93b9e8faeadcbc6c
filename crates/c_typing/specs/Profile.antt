-- The functions that a program may call and declare besides those that its file defines, and the head of `main`. They
-- go by their names alone: a variable hides none of them.
use Rattle.std.specs.Prelude.{Bool, true, false, ◌&&◌, ◌||◌, List, [], ◌∷◌, ◌++◌, codes, Option, Some, None}
use Rattle.c_ast.specs.declared.items.Head.{Head}
use Rattle.c_ast.specs.declared.items.Params.{Params}
use Rattle.c_ast.specs.declared.items.Params.TheVariants as params
use Rattle.c_ast.specs.declared.items.ReturnType.{ReturnType}
use Rattle.c_ast.specs.declared.items.ReturnType.TheVariants as gives
use Rattle.c_ast.specs.declared.operands.Operand.{Operand}
use Rattle.c_ast.specs.declared.statements.Data.{Data}
use Rattle.c_ast.specs.declared.statements.Data.TheVariants as data'
use Rattle.c_typing.specs.Globals.{Globals}
pub use Rattle.c_typing.specs.Globals.{is_main}
use Rattle.c_typing.specs.Meanings.{meaning_of_operand}
use Rattle.c_typing.specs.Scopes.{Scope}
use Rattle.c_typing.specs.Texts.{Text, same, has, is_empty}
use Rattle.c_typing.specs.declared.meaning.Meaning.{Meaning}
use Rattle.c_typing.specs.declared.meaning.Meaning.TheVariants as meaning
use Rattle.c_typing.specs.declared.meaning.Spot.{Spot}
use Rattle.c_typing.specs.declared.meaning.Spot.TheVariants.{Statement, Condition, Right, Elsewhere}

abbrev pub errors : List Text
errors = codes "__VERIFIER_error" ∷ codes "reach_error" ∷ []

abbrev pub choices : List Text
choices = codes "__VERIFIER_nondet_int" ∷ codes "__VERIFIER_nondet_bool" ∷ []

-- the functions that a program has besides its own: these names mean them, whatever a file defines
abbrev pub given : List Text
given = codes "exit" ∷ codes "abort" ∷ choices ++ errors

-- a number, an enumerator, `true` or `false`
abbrev pub is_constant : Meaning → Bool
is_constant (meaning.Pointer p to) = false
is_constant (meaning.Datum d) = false
is_constant (meaning.Known k) = true
is_constant meaning.Zero = true
is_constant meaning.Null = false
is_constant meaning.Call = false
is_constant meaning.Broken = false

abbrev pub is_one_constant : Globals → Scope → List Operand → Bool
is_one_constant g scope [] = false
is_one_constant g scope (o ∷ os) = is_constant (meaning_of_operand g scope o) && is_empty os

-- a call of one of them that is right there: its name and its operands
abbrev pub is_allowed : Globals → Scope → Spot → Text → List Operand → Bool
is_allowed g scope Statement x os =
    (has x (codes "abort" ∷ errors) && is_empty os) || (same x (codes "exit") && is_one_constant g scope os)
is_allowed g scope Condition x os = has x choices && is_empty os
is_allowed g scope Right x os = same x (codes "__VERIFIER_nondet_bool") && is_empty os
is_allowed g scope Elsewhere x os = false

abbrev pub is_int_type : Data → Bool
is_int_type (data'.Int at) = true
is_int_type (data'.Enum at name) = false

abbrev pub gives_int : ReturnType → Bool
gives_int (gives.Void at) = false
gives_int (gives.Data d) = is_int_type d
gives_int (gives.Pointer at name) = false

abbrev pub gives_nothing : ReturnType → Bool
gives_nothing (gives.Void at) = true
gives_nothing (gives.Data d) = false
gives_nothing (gives.Pointer at name) = false

-- `()` and `(void)` both have no parameters
abbrev pub has_no_params : Option Params → Bool
has_no_params None = true
has_no_params (Some (params.Void at)) = true
has_no_params (Some (params.List ps)) = false

-- `int main()`
abbrev pub is_main_head : Head → Bool
is_main_head h = gives_int h.gives && has_no_params h.params

-- `int __VERIFIER_nondet_int()`, `int __VERIFIER_nondet_bool()`, `void __VERIFIER_error()`, `void reach_error()`, `void
-- abort()`
abbrev pub is_allowed_head : Head → Bool
is_allowed_head h =
    ((has h.name.text choices && gives_int h.gives)
    || (has h.name.text (codes "abort" ∷ errors) && gives_nothing h.gives)) && has_no_params h.params
