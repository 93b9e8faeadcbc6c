-- Rows on the typing of functions and calls: for each condition a program that meets it and one that does not.
use Rattle.std.proofs.Common.{◌≡◌, ℕ, Bool, true, false, Some, None, List, [], ◌∷◌, refl}
use Rattle.c_types.specs.declared.program.DataPath.TheVariants.{Var as DataVar}
use Rattle.c_types.specs.declared.program.VarRef.TheVariants.{Ptr as PtrVar, Data as DatumVar}
use Rattle.c_types.specs.declared.program.Arg.{Arg}
use Rattle.c_types.specs.declared.program.Dest.{Dest}
use Rattle.c_types.specs.declared.program.Dest.TheVariants.{Ptr as PtrDest, Data as DataDest}
use Rattle.c_types.specs.declared.program.Func.{Func}
use Rattle.c_types.specs.declared.program.Stmt.{Stmt}
use Rattle.c_types.specs.declared.program.Stmt.TheVariants.{Group, Call, While}
use Rattle.c_types.specs.Program.{Program, is_typed}
use Rattle.c_types.proofs.Layers.{typed_layers}
use Rattle.c_types.proofs.Rows.Forms.{var, arrow, copy, put, leave, break, literal, has, func, back, back_none}
use Rattle.c_types.proofs.Rows.Forms.{give_ptr, give_null, give_datum, give_known}
use Rattle.c_types.proofs.Rows.Typing.{both, variable}

-- struct node *f(struct node *p) { struct item *l; .. }  int g(int a) { .. }  void h(void) { .. }
-- int main(void) { struct node *x; struct item *y; int d; .. }
-- pointers: 0 the result of f, 1 p, 2 l, 3 x, 4 y; data: 0 the result of g, 1 a, 2 d
abbrev program : List Func → List Stmt → Program
program funcs body =
    record {
      shapes = record { structs = both };
      vars = (variable 0 ∷ variable 0 ∷ variable 1 ∷ variable 0 ∷ variable 1 ∷ []);
      data_vars = ([] ∷ [] ∷ [] ∷ []);
      funcs = funcs;
      body = Group body (3 ∷ 4 ∷ []) (2 ∷ []) 9 ∷ [];
    }

abbrev f : List Stmt → Func
f body = func (PtrVar 1 ∷ []) (PtrVar 2 ∷ []) (Some (PtrVar 0)) body (2 ∷ []) [] 5

abbrev g : List Stmt → Func
g body = func (DatumVar 1 ∷ []) [] (Some (DatumVar 0)) body [] [] 6

abbrev h : List Stmt → Func
h body = func [] [] None body [] [] 7

abbrev three : List Func
three = f (back 0 (give_ptr (var 1)) 2 ∷ []) ∷ g (back 1 (give_datum (DataVar 1)) 2 ∷ []) ∷ h (back_none 2 2 ∷ []) ∷ []

-- a statement of main is typed
abbrev accepts : Stmt → Bool
accepts s = is_typed (program three (s ∷ []))

-- main calls, with a target or without
abbrev calls : ℕ → List Arg → Stmt
calls k args = Call k args None 3

abbrev sets : ℕ → List Arg → Dest → Stmt
sets k args to' = Call k args (Some to') 3

-- the body of f, of g and of h are typed, where these statements stand first
abbrev f_accepts : Stmt → Bool
f_accepts s = is_typed (program (f (s ∷ []) ∷ g [] ∷ h [] ∷ []) [])

abbrev g_accepts : Stmt → Bool
g_accepts s = is_typed (program (f [] ∷ g (s ∷ []) ∷ h [] ∷ []) [])

abbrev h_accepts : Stmt → Bool
h_accepts s = is_typed (program (f [] ∷ g [] ∷ h (s ∷ []) ∷ []) [])

-- Calls

-- x = f(x->next)
own_struct : accepts (sets 0 (give_ptr (arrow 3 0) ∷ []) (PtrDest (var 3))) ≡ true
unfolding is_typed
own_struct = simp typed_layers refl

-- f(NULL), f(y->head), d = g(1), g(d), h()
null_given : accepts (calls 0 (give_null ∷ [])) ≡ true
unfolding is_typed
null_given = simp typed_layers refl

head_given : accepts (calls 0 (give_ptr (arrow 4 0) ∷ [])) ≡ true
unfolding is_typed
head_given = simp typed_layers refl

number_given : accepts (sets 1 (give_known 1 ∷ []) (DataDest (DataVar 2))) ≡ true
unfolding is_typed
number_given = simp typed_layers refl

datum_given : accepts (calls 1 (give_datum (DataVar 2) ∷ [])) ≡ true
unfolding is_typed
datum_given = simp typed_layers refl

nothing_given : accepts (calls 2 []) ≡ true
unfolding is_typed
nothing_given = simp typed_layers refl

no_such_function : accepts (calls 3 []) ≡ false
unfolding is_typed
no_such_function = simp typed_layers refl

argument_missing : accepts (calls 0 []) ≡ false
unfolding is_typed
argument_missing = simp typed_layers refl

argument_too_many : accepts (calls 2 (give_null ∷ [])) ≡ false
unfolding is_typed
argument_too_many = simp typed_layers refl

other_struct_given : accepts (calls 0 (give_ptr (var 4) ∷ [])) ≡ false
unfolding is_typed
other_struct_given = simp typed_layers refl

number_for_a_pointer : accepts (calls 0 (give_known 0 ∷ [])) ≡ false
unfolding is_typed
number_for_a_pointer = simp typed_layers refl

pointer_for_a_number : accepts (calls 1 (give_null ∷ [])) ≡ false
unfolding is_typed
pointer_for_a_number = simp typed_layers refl

number_too_large : accepts (calls 1 (give_known 16 ∷ [])) ≡ false
unfolding is_typed
number_too_large = simp typed_layers refl

datum_not_there : accepts (calls 1 (give_datum (DataVar 3) ∷ [])) ≡ false
unfolding is_typed
datum_not_there = simp typed_layers refl

-- y = f(x), d = f(x), x = g(1), d = h()
other_struct_set : accepts (sets 0 (give_ptr (var 3) ∷ []) (PtrDest (var 4))) ≡ false
unfolding is_typed
other_struct_set = simp typed_layers refl

datum_set_to_a_pointer : accepts (sets 0 (give_ptr (var 3) ∷ []) (DataDest (DataVar 2))) ≡ false
unfolding is_typed
datum_set_to_a_pointer = simp typed_layers refl

pointer_set_to_a_datum : accepts (sets 1 (give_known 1 ∷ []) (PtrDest (var 3))) ≡ false
unfolding is_typed
pointer_set_to_a_datum = simp typed_layers refl

set_to_nothing : accepts (sets 2 [] (DataDest (DataVar 2))) ≡ false
unfolding is_typed
set_to_nothing = simp typed_layers refl

-- No function leads to itself.

calls_another : f_accepts (calls 1 (give_known 1 ∷ [])) ≡ true
unfolding is_typed
calls_another = simp typed_layers refl

calls_a_later_and_an_earlier :
    is_typed (program (f (calls 2 [] ∷ []) ∷ g [] ∷ h (calls 1 (give_known 1 ∷ []) ∷ []) ∷ []) []) ≡ true
unfolding is_typed
calls_a_later_and_an_earlier = simp typed_layers refl

calls_itself : h_accepts (calls 2 []) ≡ false
unfolding is_typed
calls_itself = simp typed_layers refl

calls_itself_in_a_loop : h_accepts (While (literal true 2) (calls 2 [] ∷ [])) ≡ false
unfolding is_typed
calls_itself_in_a_loop = simp typed_layers refl

calls_in_a_ring :
    is_typed
    (program (f (calls 1 (give_known 1 ∷ []) ∷ []) ∷ g (calls 2 [] ∷ []) ∷ h (calls 0 (give_null ∷ []) ∷ []) ∷ []) [])
    ≡ false
unfolding is_typed
calls_in_a_ring = simp typed_layers refl

-- Returns

value_returned : f_accepts (back 0 (give_ptr (var 1)) 2) ≡ true
unfolding is_typed
value_returned = simp typed_layers refl

null_returned : f_accepts (back 0 give_null 2) ≡ true
unfolding is_typed
null_returned = simp typed_layers refl

nothing_returned : h_accepts (back_none 2 2) ≡ true
unfolding is_typed
nothing_returned = simp typed_layers refl

value_missing : f_accepts (back_none 0 2) ≡ false
unfolding is_typed
value_missing = simp typed_layers refl

value_too_many : h_accepts (back 2 give_null 2) ≡ false
unfolding is_typed
value_too_many = simp typed_layers refl

other_kind_returned : f_accepts (back 0 (give_known 0) 2) ≡ false
unfolding is_typed
other_kind_returned = simp typed_layers refl

other_struct_returned : f_accepts (back 0 (give_ptr (var 2)) 2) ≡ false
unfolding is_typed
other_struct_returned = simp typed_layers refl

-- the result of g is a datum, and f returns one: it is a `return` of f that stands there
return_of_another : f_accepts (back 1 (give_known 0) 2) ≡ false
unfolding is_typed
return_of_another = simp typed_layers refl

return_of_main : h_accepts (leave 2) ≡ false
unfolding is_typed
return_of_main = simp typed_layers refl

return_in_main : accepts (leave 2) ≡ true
unfolding is_typed
return_in_main = simp typed_layers refl

return_of_a_function_in_main : accepts (back_none 2 2) ≡ false
unfolding is_typed
return_of_a_function_in_main = simp typed_layers refl

break_in_a_function : h_accepts (break 2) ≡ false
unfolding is_typed
break_in_a_function = simp typed_layers refl

break_in_its_loop : h_accepts (While (literal true 2) (break 3 ∷ [])) ≡ true
unfolding is_typed
break_in_its_loop = simp typed_layers refl

-- Whose variables are named

own_parameter : f_accepts (copy (var 1) (arrow 1 0) 2) ≡ true
unfolding is_typed
own_parameter = simp typed_layers refl

own_local : f_accepts (copy (var 1) (arrow 2 0) 2) ≡ true
unfolding is_typed
own_local = simp typed_layers refl

own_result : f_accepts (copy (var 1) (var 0) 2) ≡ false
unfolding is_typed
own_result = simp typed_layers refl

variable_of_main : f_accepts (copy (var 1) (var 3) 2) ≡ false
unfolding is_typed
variable_of_main = simp typed_layers refl

datum_of_another : h_accepts (put (DataVar 1) 1 2) ≡ false
unfolding is_typed
datum_of_another = simp typed_layers refl

own_datum : g_accepts (put (DataVar 1) 1 2) ≡ true
unfolding is_typed
own_datum = simp typed_layers refl

given_from_main : h_accepts (calls 0 (give_ptr (var 3) ∷ [])) ≡ false
unfolding is_typed
given_from_main = simp typed_layers refl

set_in_main : h_accepts (sets 0 (give_null ∷ []) (PtrDest (var 3))) ≡ false
unfolding is_typed
set_in_main = simp typed_layers refl

returned_from_main : f_accepts (back 0 (give_ptr (var 3)) 2) ≡ false
unfolding is_typed
returned_from_main = simp typed_layers refl

tested_from_main : h_accepts (While (has 2 1 2) []) ≡ false
unfolding is_typed
tested_from_main = simp typed_layers refl

main_names_a_parameter : accepts (copy (var 3) (var 1) 2) ≡ false
unfolding is_typed
main_names_a_parameter = simp typed_layers refl

main_names_a_result : accepts (copy (var 3) (var 0) 2) ≡ false
unfolding is_typed
main_names_a_result = simp typed_layers refl

main_declares_a_local : accepts (Group [] (2 ∷ []) [] 3) ≡ false
unfolding is_typed
main_declares_a_local = simp typed_layers refl

-- Which variables a function has

-- these functions, with an empty main
abbrev has_funcs : List Func → Bool
has_funcs funcs = is_typed (program funcs [])

local_not_declared : has_funcs (func [] (PtrVar 1 ∷ PtrVar 2 ∷ []) None [] (2 ∷ []) [] 5 ∷ []) ≡ false
unfolding is_typed
local_not_declared = simp typed_layers refl

declared_but_no_local : has_funcs (func [] (PtrVar 1 ∷ []) None [] (1 ∷ 2 ∷ []) [] 5 ∷ []) ≡ false
unfolding is_typed
declared_but_no_local = simp typed_layers refl

locals_in_another_order : has_funcs (func [] (DatumVar 1 ∷ PtrVar 1 ∷ []) None [] (1 ∷ []) (1 ∷ []) 5 ∷ []) ≡ true
unfolding is_typed
locals_in_another_order = simp typed_layers refl

-- a variable is declared in a block within the body
inner_local :
    has_funcs (func [] (PtrVar 1 ∷ []) None (While (literal true 2) (Group [] (1 ∷ []) [] 4 ∷ []) ∷ []) [] [] 5 ∷ [])
    ≡ true
unfolding is_typed
inner_local = simp typed_layers refl

one_variable_for_two_parameters : has_funcs (func (PtrVar 1 ∷ PtrVar 1 ∷ []) [] None [] [] [] 5 ∷ []) ≡ false
unfolding is_typed
one_variable_for_two_parameters = simp typed_layers refl

-- a pointer and a datum have numbers of their own
one_number_for_two_kinds : has_funcs (func (PtrVar 1 ∷ DatumVar 1 ∷ []) [] None [] [] [] 5 ∷ []) ≡ true
unfolding is_typed
one_number_for_two_kinds = simp typed_layers refl

result_is_a_parameter : has_funcs (func (PtrVar 1 ∷ []) [] (Some (PtrVar 1)) [] [] [] 5 ∷ []) ≡ false
unfolding is_typed
result_is_a_parameter = simp typed_layers refl

two_functions_share :
    has_funcs (func (PtrVar 1 ∷ []) [] None [] [] [] 5 ∷ func [] [] (Some (PtrVar 1)) [] [] [] 6 ∷ []) ≡ false
unfolding is_typed
two_functions_share = simp typed_layers refl

parameter_not_there : has_funcs (func (PtrVar 5 ∷ []) [] None [] [] [] 5 ∷ []) ≡ false
unfolding is_typed
parameter_not_there = simp typed_layers refl

result_not_there : has_funcs (func [] [] (Some (DatumVar 3)) [] [] [] 5 ∷ []) ≡ false
unfolding is_typed
result_not_there = simp typed_layers refl

last_datum : has_funcs (func [] [] (Some (DatumVar 1)) [] [] [] 5 ∷ []) ≡ true
unfolding is_typed
last_datum = simp typed_layers refl
