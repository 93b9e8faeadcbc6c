-- Rows on typing: for each condition a program that meets it and one that does not.
use Rattle.std.proofs.Common.{◌≡◌, ℕ, Bool, true, false, Some, List, [], ◌∷◌, refl}
use Rattle.fore_base.specs.declared.shape.Shape.{Shape}
use Rattle.c_types.specs.declared.program.DataPath.TheVariants.{Var as DataVar, Field as DataField}
use Rattle.c_types.specs.declared.program.PtrRhs.TheVariants.{New as RhsNew}
use Rattle.c_types.specs.declared.program.PtrOp.TheVariants.{Path as OpPath, Null as OpNull}
use Rattle.c_types.specs.declared.program.DataOp.TheVariants.{Path as DataOpPath, Known as DataOpKnown}
use Rattle.c_types.specs.declared.program.Act.TheVariants.{SetPtr, Return}
use Rattle.c_types.specs.declared.program.VarDef.{VarDef}
use Rattle.c_types.specs.declared.program.Cond.{Cond}
use Rattle.c_types.specs.declared.program.Cond.TheVariants.{Not, All, Any}
use Rattle.c_types.specs.declared.program.Stmt.{Stmt}
use Rattle.c_types.specs.declared.program.Stmt.TheVariants.{Do, Branch, While, DoWhile, For, Group}
use Rattle.c_types.specs.Program.{Program, is_typed}
use Rattle.c_types.proofs.Layers.{typed_layers}
use Rattle.c_types.proofs.Rows.Forms.{pointer_to, datum, var, arrow, arrows, key, choice, literal, compare}
use Rattle.c_types.proofs.Rows.Forms.{compare_data, has, null, copy, free, put, copy_data, choose, error, halt, leave}
use Rattle.c_types.proofs.Rows.Forms.{break, continue, block}

-- struct node { struct node *next; };  struct item { struct node *head; int key; struct item *twin; int mark; };
abbrev pub both : List Shape
both = record { name = []; fields = (pointer_to 0 ∷ []) }
    ∷ record { name = []; fields = (pointer_to 0 ∷ datum ∷ pointer_to 1 ∷ datum ∷ []) } ∷ []

abbrev pub variable : ℕ → VarDef
variable shape = record { name = []; shape = shape }

-- struct node *p; struct item *q, *r; int x, y;
abbrev pub program : List Stmt → Program
program body =
    record {
      shapes = record { structs = both };
      vars = (variable 0 ∷ variable 1 ∷ variable 1 ∷ []);
      data_vars = ([] ∷ [] ∷ []);
      funcs = [];
      body = body;
    }

-- a statement in main's block is typed
abbrev accepts : Stmt → Bool
accepts s = is_typed (program (Group (s ∷ []) (0 ∷ 1 ∷ 2 ∷ []) (0 ∷ 1 ∷ []) 9 ∷ []))

-- Assignments to pointers

-- p = p->next
next_of_p : accepts (copy (var 0) (arrow 0 0) 1) ≡ true
unfolding is_typed
next_of_p = simp typed_layers refl

-- p = q->head
head_of_q : accepts (copy (var 0) (arrow 1 0) 1) ≡ true
unfolding is_typed
head_of_q = simp typed_layers refl

-- q = q->twin->twin
twin_of_twin : accepts (copy (var 1) (arrows 1 1 1) 1) ≡ true
unfolding is_typed
twin_of_twin = simp typed_layers refl

-- q->twin->head->next = p
three_arrows : accepts (copy (record { var = 1; fields = (1 ∷ 0 ∷ 0 ∷ []) }) (var 0) 1) ≡ true
unfolding is_typed
three_arrows = simp typed_layers refl

-- q = r
same_struct : accepts (copy (var 1) (var 2) 1) ≡ true
unfolding is_typed
same_struct = simp typed_layers refl

-- p = q
other_struct : accepts (copy (var 0) (var 1) 1) ≡ false
unfolding is_typed
other_struct = simp typed_layers refl

-- p = q->twin
other_struct_of_a_field : accepts (copy (var 0) (arrow 1 1) 1) ≡ false
unfolding is_typed
other_struct_of_a_field = simp typed_layers refl

-- the item has no third pointer field, the node no second one
no_such_field : accepts (copy (var 1) (arrow 1 2) 1) ≡ false
unfolding is_typed
no_such_field = simp typed_layers refl

no_such_field_of_a_field : accepts (copy (var 0) (arrows 1 0 1) 1) ≡ false
unfolding is_typed
no_such_field_of_a_field = simp typed_layers refl

no_such_field_before_an_arrow : accepts (copy (var 0) (arrows 0 1 0) 1) ≡ false
unfolding is_typed
no_such_field_before_an_arrow = simp typed_layers refl

no_such_target : accepts (copy (arrow 0 1) (var 0) 1) ≡ false
unfolding is_typed
no_such_target = simp typed_layers refl

-- there are three pointer variables
no_such_variable : accepts (copy (var 1) (var 3) 1) ≡ false
unfolding is_typed
no_such_variable = simp typed_layers refl

no_such_variable_to_set : accepts (null (var 3) 1) ≡ false
unfolding is_typed
no_such_variable_to_set = simp typed_layers refl

null_to_a_field : accepts (null (arrow 1 1) 1) ≡ true
unfolding is_typed
null_to_a_field = simp typed_layers refl

null_to_no_field : accepts (null (arrow 0 1) 1) ≡ false
unfolding is_typed
null_to_no_field = simp typed_layers refl

new_node : accepts (Do (SetPtr (var 0) (RhsNew 0)) 1) ≡ true
unfolding is_typed
new_node = simp typed_layers refl

new_item_of_a_field : accepts (Do (SetPtr (arrow 2 1) (RhsNew 1)) 1) ≡ true
unfolding is_typed
new_item_of_a_field = simp typed_layers refl

new_of_another_struct : accepts (Do (SetPtr (var 0) (RhsNew 1)) 1) ≡ false
unfolding is_typed
new_of_another_struct = simp typed_layers refl

new_to_no_field : accepts (Do (SetPtr (arrow 0 1) (RhsNew 0)) 1) ≡ false
unfolding is_typed
new_to_no_field = simp typed_layers refl

-- Assignments to data

key_of_q : accepts (copy_data (DataVar 0) (key 1 0) 1) ≡ true
unfolding is_typed
key_of_q = simp typed_layers refl

mark_of_q : accepts (copy_data (DataVar 0) (key 1 1) 1) ≡ true
unfolding is_typed
mark_of_q = simp typed_layers refl

no_such_datum : accepts (copy_data (DataVar 0) (key 1 2) 1) ≡ false
unfolding is_typed
no_such_datum = simp typed_layers refl

no_datum_of_a_node : accepts (copy_data (DataVar 0) (key 0 0) 1) ≡ false
unfolding is_typed
no_datum_of_a_node = simp typed_layers refl

datum_of_a_field : accepts (copy_data (DataVar 0) (DataField (arrow 1 1) 1) 1) ≡ true
unfolding is_typed
datum_of_a_field = simp typed_layers refl

datum_of_a_node_field : accepts (copy_data (DataVar 0) (DataField (arrow 1 0) 0) 1) ≡ false
unfolding is_typed
datum_of_a_node_field = simp typed_layers refl

datum_of_no_field : accepts (copy_data (DataVar 0) (DataField (arrow 1 2) 0) 1) ≡ false
unfolding is_typed
datum_of_no_field = simp typed_layers refl

datum_of_a_datum : accepts (copy_data (DataVar 0) (DataVar 1) 1) ≡ true
unfolding is_typed
datum_of_a_datum = simp typed_layers refl

no_such_data_variable : accepts (copy_data (DataVar 0) (DataVar 2) 1) ≡ false
unfolding is_typed
no_such_data_variable = simp typed_layers refl

no_such_data_variable_to_set : accepts (put (DataVar 2) 1 1) ≡ false
unfolding is_typed
no_such_data_variable_to_set = simp typed_layers refl

greatest_number : accepts (put (DataVar 1) 15 1) ≡ true
unfolding is_typed
greatest_number = simp typed_layers refl

number_too_great : accepts (put (DataVar 1) 16 1) ≡ false
unfolding is_typed
number_too_great = simp typed_layers refl

chosen : accepts (choose (key 1 0) 1) ≡ true
unfolding is_typed
chosen = simp typed_layers refl

chosen_to_no_datum : accepts (choose (key 0 0) 1) ≡ false
unfolding is_typed
chosen_to_no_datum = simp typed_layers refl

-- Other acts

free_of_a_path : accepts (free (arrows 1 1 0) 1) ≡ true
unfolding is_typed
free_of_a_path = simp typed_layers refl

free_of_no_path : accepts (free (arrow 0 1) 1) ≡ false
unfolding is_typed
free_of_no_path = simp typed_layers refl

error_anywhere : accepts (error 1) ≡ true
unfolding is_typed
error_anywhere = simp typed_layers refl

exit_anywhere : accepts (halt 1) ≡ true
unfolding is_typed
exit_anywhere = simp typed_layers refl

return_anywhere : accepts (leave 1) ≡ true
unfolding is_typed
return_anywhere = simp typed_layers refl

return_of_a_datum : accepts (Do (Return (Some (key 1 1))) 1) ≡ true
unfolding is_typed
return_of_a_datum = simp typed_layers refl

return_of_no_datum : accepts (Do (Return (Some (DataVar 2))) 1) ≡ false
unfolding is_typed
return_of_no_datum = simp typed_layers refl

-- Conditions

-- if (c) ;
abbrev tests : Cond → Stmt
tests c = Branch c [] []

choice_is_typed : accepts (tests (choice 1)) ≡ true
unfolding is_typed
choice_is_typed = simp typed_layers refl

literal_is_typed : accepts (tests (literal true 1)) ≡ true
unfolding is_typed
literal_is_typed = simp typed_layers refl

nodes_compared : accepts (tests (compare (OpPath (var 0)) (OpPath (arrow 1 0)) true 1)) ≡ true
unfolding is_typed
nodes_compared = simp typed_layers refl

node_and_item : accepts (tests (compare (OpPath (var 0)) (OpPath (var 1)) true 1)) ≡ false
unfolding is_typed
node_and_item = simp typed_layers refl

no_path_at_the_left : accepts (tests (compare (OpPath (var 3)) (OpPath (var 0)) true 1)) ≡ false
unfolding is_typed
no_path_at_the_left = simp typed_layers refl

no_path_at_the_right : accepts (tests (compare (OpPath (var 0)) (OpPath (var 3)) true 1)) ≡ false
unfolding is_typed
no_path_at_the_right = simp typed_layers refl

path_and_null : accepts (tests (compare (OpPath (var 0)) OpNull true 1)) ≡ true
unfolding is_typed
path_and_null = simp typed_layers refl

no_path_and_null : accepts (tests (compare (OpPath (var 3)) OpNull true 1)) ≡ false
unfolding is_typed
no_path_and_null = simp typed_layers refl

null_and_path : accepts (tests (compare OpNull (OpPath (arrow 2 1)) true 1)) ≡ true
unfolding is_typed
null_and_path = simp typed_layers refl

null_and_no_path : accepts (tests (compare OpNull (OpPath (arrow 2 2)) true 1)) ≡ false
unfolding is_typed
null_and_no_path = simp typed_layers refl

null_and_null : accepts (tests (compare OpNull OpNull true 1)) ≡ true
unfolding is_typed
null_and_null = simp typed_layers refl

data_compared : accepts (tests (compare_data (DataOpPath (key 1 0)) (DataOpKnown 15) true 1)) ≡ true
unfolding is_typed
data_compared = simp typed_layers refl

no_datum_at_the_left : accepts (tests (compare_data (DataOpPath (key 1 2)) (DataOpKnown 1) true 1)) ≡ false
unfolding is_typed
no_datum_at_the_left = simp typed_layers refl

no_datum_at_the_right : accepts (tests (compare_data (DataOpKnown 1) (DataOpPath (key 1 2)) true 1)) ≡ false
unfolding is_typed
no_datum_at_the_right = simp typed_layers refl

great_number_at_the_left : accepts (tests (compare_data (DataOpKnown 16) (DataOpPath (DataVar 0)) true 1)) ≡ false
unfolding is_typed
great_number_at_the_left = simp typed_layers refl

great_number_at_the_right : accepts (tests (compare_data (DataOpPath (DataVar 0)) (DataOpKnown 16) true 1)) ≡ false
unfolding is_typed
great_number_at_the_right = simp typed_layers refl

-- a condition that is not typed: x == 16
abbrev bad : Cond
bad = has 0 16 1

not_of_a_good_one : accepts (tests (Not (choice 1))) ≡ true
unfolding is_typed
not_of_a_good_one = simp typed_layers refl

not_of_a_bad_one : accepts (tests (Not bad)) ≡ false
unfolding is_typed
not_of_a_bad_one = simp typed_layers refl

and_of_good_ones : accepts (tests (All (choice 1 ∷ choice 1 ∷ choice 1 ∷ []))) ≡ true
unfolding is_typed
and_of_good_ones = simp typed_layers refl

and_of_none : accepts (tests (All [])) ≡ false
unfolding is_typed
and_of_none = simp typed_layers refl

and_first_bad : accepts (tests (All (bad ∷ choice 1 ∷ choice 1 ∷ []))) ≡ false
unfolding is_typed
and_first_bad = simp typed_layers refl

and_second_bad : accepts (tests (All (choice 1 ∷ bad ∷ choice 1 ∷ []))) ≡ false
unfolding is_typed
and_second_bad = simp typed_layers refl

and_last_bad : accepts (tests (All (choice 1 ∷ choice 1 ∷ bad ∷ []))) ≡ false
unfolding is_typed
and_last_bad = simp typed_layers refl

or_of_one : accepts (tests (Any (choice 1 ∷ []))) ≡ true
unfolding is_typed
or_of_one = simp typed_layers refl

or_of_none : accepts (tests (Any [])) ≡ false
unfolding is_typed
or_of_none = simp typed_layers refl

or_last_bad : accepts (tests (Any (choice 1 ∷ bad ∷ []))) ≡ false
unfolding is_typed
or_last_bad = simp typed_layers refl

-- Statements: a bad condition, and a bad act in each part

-- x = 16
abbrev pub wrong : Stmt
wrong = put (DataVar 0) 16 1

branch_condition : accepts (Branch bad [] []) ≡ false
unfolding is_typed
branch_condition = simp typed_layers refl

branch_yes : accepts (Branch (choice 1) (halt 1 ∷ wrong ∷ []) []) ≡ false
unfolding is_typed
branch_yes = simp typed_layers refl

branch_no : accepts (Branch (choice 1) [] (halt 1 ∷ wrong ∷ [])) ≡ false
unfolding is_typed
branch_no = simp typed_layers refl

branch_of_both : accepts (Branch (choice 1) (halt 1 ∷ error 1 ∷ []) (halt 1 ∷ [])) ≡ true
unfolding is_typed
branch_of_both = simp typed_layers refl

while_condition : accepts (While bad []) ≡ false
unfolding is_typed
while_condition = simp typed_layers refl

while_body : accepts (While (choice 1) (wrong ∷ [])) ≡ false
unfolding is_typed
while_body = simp typed_layers refl

while_good : accepts (While (choice 1) (halt 1 ∷ [])) ≡ true
unfolding is_typed
while_good = simp typed_layers refl

do_condition : accepts (DoWhile bad []) ≡ false
unfolding is_typed
do_condition = simp typed_layers refl

do_body : accepts (DoWhile (choice 1) (wrong ∷ [])) ≡ false
unfolding is_typed
do_body = simp typed_layers refl

do_good : accepts (DoWhile (choice 1) (halt 1 ∷ [])) ≡ true
unfolding is_typed
do_good = simp typed_layers refl

for_condition : accepts (For bad [] []) ≡ false
unfolding is_typed
for_condition = simp typed_layers refl

for_next : accepts (For (choice 1) (wrong ∷ []) []) ≡ false
unfolding is_typed
for_next = simp typed_layers refl

for_body : accepts (For (choice 1) [] (wrong ∷ [])) ≡ false
unfolding is_typed
for_body = simp typed_layers refl

for_good : accepts (For (choice 1) (halt 1 ∷ []) (halt 1 ∷ [])) ≡ true
unfolding is_typed
for_good = simp typed_layers refl

block_body : accepts (block (wrong ∷ [])) ≡ false
unfolding is_typed
block_body = simp typed_layers refl

block_pointers : accepts (Group [] (2 ∷ []) [] 1) ≡ true
unfolding is_typed
block_pointers = simp typed_layers refl

block_no_pointer : accepts (Group [] (0 ∷ 3 ∷ []) [] 1) ≡ false
unfolding is_typed
block_no_pointer = simp typed_layers refl

block_data : accepts (Group [] [] (1 ∷ []) 1) ≡ true
unfolding is_typed
block_data = simp typed_layers refl

block_no_datum : accepts (Group [] [] (0 ∷ 2 ∷ []) 1) ≡ false
unfolding is_typed
block_no_datum = simp typed_layers refl

-- `break` and `continue`

break_outside : accepts (break 1) ≡ false
unfolding is_typed
break_outside = simp typed_layers refl

continue_outside : accepts (continue 1) ≡ false
unfolding is_typed
continue_outside = simp typed_layers refl

break_in_while : accepts (While (choice 1) (break 1 ∷ [])) ≡ true
unfolding is_typed
break_in_while = simp typed_layers refl

continue_in_do : accepts (DoWhile (choice 1) (continue 1 ∷ [])) ≡ true
unfolding is_typed
continue_in_do = simp typed_layers refl

break_in_for : accepts (For (choice 1) [] (break 1 ∷ [])) ≡ true
unfolding is_typed
break_in_for = simp typed_layers refl

continue_in_a_branch : accepts (While (choice 1) (Branch (choice 1) [] (block (continue 1 ∷ []) ∷ []) ∷ [])) ≡ true
unfolding is_typed
continue_in_a_branch = simp typed_layers refl

break_in_a_branch_outside : accepts (Branch (choice 1) (break 1 ∷ []) []) ≡ false
unfolding is_typed
break_in_a_branch_outside = simp typed_layers refl

break_in_a_block_outside : accepts (block (break 1 ∷ [])) ≡ false
unfolding is_typed
break_in_a_block_outside = simp typed_layers refl

break_in_a_loop_in_a_loop : accepts (While (choice 1) (DoWhile (choice 1) (break 1 ∷ []) ∷ continue 1 ∷ [])) ≡ true
unfolding is_typed
break_in_a_loop_in_a_loop = simp typed_layers refl

break_after_a_loop : accepts (block (While (choice 1) [] ∷ break 1 ∷ [])) ≡ false
unfolding is_typed
break_after_a_loop = simp typed_layers refl

break_in_next : accepts (For (choice 1) (break 1 ∷ []) []) ≡ false
unfolding is_typed
break_in_next = simp typed_layers refl

continue_in_next : accepts (For (choice 1) (continue 1 ∷ []) []) ≡ false
unfolding is_typed
continue_in_next = simp typed_layers refl

break_in_next_in_a_loop : accepts (While (choice 1) (For (choice 1) (break 1 ∷ []) [] ∷ [])) ≡ false
unfolding is_typed
break_in_next_in_a_loop = simp typed_layers refl

break_in_while_in_next : accepts (For (choice 1) (While (choice 1) (break 1 ∷ []) ∷ []) []) ≡ false
unfolding is_typed
break_in_while_in_next = simp typed_layers refl

break_in_do_in_next : accepts (For (choice 1) (DoWhile (choice 1) (break 1 ∷ []) ∷ []) []) ≡ false
unfolding is_typed
break_in_do_in_next = simp typed_layers refl

continue_in_for_in_next : accepts (For (choice 1) (For (choice 1) [] (continue 1 ∷ []) ∷ []) []) ≡ false
unfolding is_typed
continue_in_for_in_next = simp typed_layers refl

return_in_next : accepts (For (choice 1) (leave 1 ∷ []) []) ≡ true
unfolding is_typed
return_in_next = simp typed_layers refl
