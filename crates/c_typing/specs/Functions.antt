-- The functions that a file defines, where they are called and declared (ISO/IEC 9899:2011, 6.5.2.2). They go by their
-- names alone: a variable hides none of them.
use Rattle.std.specs.Prelude.{ℕ, Bool, true, false, not, ◌&&◌, ◌||◌, cond, nat_eq, List, [], ◌∷◌, ◌++◌, map, length}
use Rattle.std.specs.Prelude.{codes, Option, Some, None, is_some, slice_get}
use Rattle.c_ast.specs.declared.items.Head.{Head}
use Rattle.c_ast.specs.declared.operands.Call.{Call}
use Rattle.c_ast.specs.declared.operands.Operand.{Operand, Operand-F, out-Operand}
use Rattle.c_ast.specs.declared.operands.Operand.TheOpen as operand
use Rattle.c_calls.specs.Calls.{leads_within}
use Rattle.c_typing.specs.Globals.{Globals, differ, function_name, function_number, function_of, is_main, struct_names}
use Rattle.c_typing.specs.Profile.{given, is_allowed_head}
use Rattle.c_typing.specs.Texts.{Text, has, number_of}
use Rattle.c_typing.specs.declared.meaning.FunctionDef.{FunctionDef}
use Rattle.c_typing.specs.declared.meaning.Kind.{Kind}
use Rattle.c_typing.specs.declared.meaning.Kind.TheVariants.{Points, Datum}
use Rattle.c_typing.specs.declared.meaning.Spot.{Spot}
use Rattle.c_typing.specs.declared.meaning.Spot.TheVariants.{Statement, Condition, Right, Elsewhere}

-- Which function is called

-- the number of the function that a call of this name calls; the given ones and `main` have none
abbrev pub called_number : Globals → Text → Option ℕ
called_number g x = cond (has x given) None (function_number g x)

abbrev pub function_at : Globals → Option ℕ → Option FunctionDef
function_at g None = None
function_at g (Some n) = slice_get g.functions n

-- the function that a call of this name calls
abbrev pub called : Globals → Text → Option FunctionDef
called g x = function_at g (called_number g x)

abbrev pub params_in : Option FunctionDef → List Kind
params_in None = []
params_in (Some f) = f.params

-- Where it may be called, and with what: as a statement or right side, with operands that are no calls

abbrev pub takes_functions : Spot → Bool
takes_functions Statement = true
takes_functions Condition = false
takes_functions Right = true
takes_functions Elsewhere = false

abbrev pub is_call : Operand-F Operand Call → Bool
is_call (operand.Path p) = false
is_call (operand.Call c) = true
is_call (operand.Number n) = false
is_call (operand.Null at) = false
is_call (operand.True at) = false
is_call (operand.False at) = false

abbrev pub has_no_calls : List Operand → Bool
has_no_calls [] = true
has_no_calls (o ∷ os) = not (is_call (out-Operand o)) && has_no_calls os

-- a call of a function of the file, right there
abbrev pub is_called : Globals → Spot → Text → List Operand → Bool
is_called g spot x os = is_some (called g x) && (takes_functions spot && has_no_calls os)

-- there is an operand for each parameter, and none besides
abbrev pub is_counted : Option FunctionDef → List Operand → Bool
is_counted None os = true
is_counted (Some f) os = nat_eq (length f.params) (length os)

-- Recursion: calls count by their names, also those of given functions, where the file defines such

-- the number of the function around, `main` coming after the others
abbrev pub home_number : Globals → Option ℕ → ℕ
home_number g None = length g.functions
home_number g (Some f) = f

abbrev pub leads_back : Globals → ℕ → Option ℕ → Bool
leads_back g home None = false
leads_back g home (Some f) = nat_eq f home || leads_within g.calls (length g.calls) f home

-- The function of this name is the one around, or leads to it by calls, no more than there are functions. More are not
-- asked for: where many lead, few do.
abbrev pub recurs : Globals → Option ℕ → Text → Bool
recurs g home x =
    leads_back g (home_number g home) (number_of x (map function_name g.functions ++ codes "main" ∷ []))

-- Prototypes (6.7.6.3): the kinds of a definition. `int` and all enumerations are one kind; a struct that is not
-- defined agrees with any.

abbrev pub same_kind : Kind → Kind → Bool
same_kind (Points s) (Points t) = not (differ s t)
same_kind (Points s) Datum = false
same_kind Datum (Points t) = false
same_kind Datum Datum = true

abbrev pub same_kinds : List Kind → List Kind → Bool
same_kinds [] [] = true
same_kinds [] (l ∷ ls) = false
same_kinds (k ∷ ks) [] = false
same_kinds (k ∷ ks) (l ∷ ls) = same_kind k l && same_kinds ks ls

abbrev pub same_result : Option Kind → Option Kind → Bool
same_result None None = true
same_result None (Some l) = false
same_result (Some k) None = false
same_result (Some k) (Some l) = same_kind k l

abbrev pub agrees : Option FunctionDef → FunctionDef → Bool
agrees None d = false
agrees (Some f) d = same_result f.result d.result && same_kinds f.params d.params

-- the definition of the function of this head; the given ones have none
abbrev pub definition : Globals → Head → Option FunctionDef
definition g h = cond (is_main h) g.main (called g h.name.text)

-- a prototype that is right
abbrev pub is_right_prototype : Globals → Head → Bool
is_right_prototype g h = is_allowed_head h || agrees (definition g h) (function_of (struct_names g) h)
