-- Rows on calls: runs of programs with functions. A program is its C text with the number of each line.
use Rattle.std.proofs.Common.{◌≡◌, ◌+◌, ℕ, true, false, Some, None, List, [], ◌∷◌, refl}
use Rattle.fore_base.specs.declared.fault.Fault.TheVariants.{NullDeref, UninitDeref, DoubleFree, Leak, IndetTest}
use Rattle.fore_base.specs.declared.store.Value.TheVariants.{Null, Cell}
use Rattle.fore_base.specs.declared.store.Datum.TheVariants.{Undefined}
use Rattle.fore_base.specs.declared.store.Store.{Store}
use Rattle.fore_base.specs.Heap.{leaks}
use Rattle.c_types.specs.declared.program.DataPath.TheVariants.{Var as DataVar}
use Rattle.c_types.specs.declared.program.DataOp.TheVariants.{Path as DataOpPath, Known as DataOpKnown}
use Rattle.c_types.specs.declared.program.VarRef.TheVariants.{Ptr as PtrVar, Data as DatumVar}
use Rattle.c_types.specs.declared.program.Arg.{Arg}
use Rattle.c_types.specs.declared.program.Dest.TheVariants.{Ptr as PtrDest, Data as DataDest}
use Rattle.c_types.specs.declared.program.Func.{Func}
use Rattle.c_types.specs.declared.program.Stmt.{Stmt}
use Rattle.c_types.specs.declared.program.Stmt.TheVariants.{Branch, While, Group, Call}
use Rattle.c_types.specs.declared.outcome.Outcome.TheVariants.{Ended, Fault, Starved}
use Rattle.c_types.specs.Program.{Program}
use Rattle.c_types.specs.Control.{Done, Enter, Leave, Exit}
use Rattle.c_types.specs.Runs.{run}
use Rattle.c_types.specs.Losses.{loses}
use Rattle.c_types.proofs.Layers.{layers}
use Rattle.c_types.proofs.Rows.Forms.{always, failing, nodes, items, var, arrow, arrows, key, choice, literal, has}
use Rattle.c_types.proofs.Rows.Forms.{compare_data, null, new, copy, copy_data, free, put, halt, leave, break}
use Rattle.c_types.proofs.Rows.Forms.{with_funcs, func, give_ptr, give_null, give_datum, give_known, back, back_none}

-- Variables are numbered in order of declaration: the result at its function's name, then parameters, then locals.

-- 2 struct node *cons(struct node *t) { 3 struct node *n = malloc();  4 n->next = t;  5 return n; } 6
-- (0 is the result, 1 is t, 2 is n)
abbrev pub cons : Func
cons = func (PtrVar 1 ∷ []) (PtrVar 2 ∷ []) (Some (PtrVar 0))
    (new (var 2) 3 ∷ copy (arrow 2 0) (var 1) 4 ∷ back 0 (give_ptr (var 2)) 5 ∷ []) (2 ∷ []) [] 6

-- 8 struct node *x = cons(NULL);
abbrev cons_null : Stmt
cons_null = Call 0 (give_null ∷ []) (Some (PtrDest (var 3))) 8

-- 7 int main(void) { 8 struct node *x = cons(NULL);  9 free(x);  10 return 0; } 11
abbrev pub one_cons : Program
one_cons =
    with_funcs nodes 4 0 (cons ∷ []) (cons_null ∷ free (var 3) 9 ∷ leave 10 ∷ []) (3 ∷ []) [] 11

-- Enter, malloc, store, Leave, Exit, free, return
cons_ends : always one_cons [] 20 ≡ Ended 7
unfolding leaks run
cons_ends = simp layers refl

-- the cell of the list is kept alive by x alone: 9 return 0;
cons_leaks : always (with_funcs nodes 4 0 (cons ∷ []) (cons_null ∷ leave 9 ∷ []) (3 ∷ []) [] 10) [] 20 ≡ Fault Leak 9 6
unfolding leaks run
cons_leaks = simp layers refl

-- a result that nothing takes dies at the Exit: 8 cons(NULL);  9 return 0;
unused_leaks :
    always (with_funcs nodes 4 0 (cons ∷ []) (Call 0 (give_null ∷ []) None 8 ∷ leave 9 ∷ []) [] [] 10) [] 20
    ≡ Fault Leak 8 5
unfolding leaks run
unused_leaks = simp layers refl

-- the target loses its cell at the second Exit: 8 x = cons(NULL);  9 x = cons(NULL);
overwritten_leaks :
    always
    (with_funcs nodes 4 0 (cons ∷ [])
    (cons_null ∷ Call 0 (give_null ∷ []) (Some (PtrDest (var 3))) 9 ∷ leave 10 ∷ []) (3 ∷ []) [] 11) [] 20
    ≡ Fault Leak 9 10
unfolding leaks run
overwritten_leaks = simp layers refl

-- what was built is handed on: 8 x = cons(NULL);  9 x = cons(x);  10 free(x->next);  11 free(x);  12 return 0;
list_of_two :
    always
    (with_funcs nodes 4 0 (cons ∷ [])
    (cons_null ∷ Call 0 (give_ptr (var 3) ∷ []) (Some (PtrDest (var 3))) 9 ∷ free (arrow 3 0) 10 ∷ free (var 3) 11
    ∷ leave 12 ∷ []) (3 ∷ []) [] 13) [] 20 ≡ Ended 13
unfolding leaks run
list_of_two = simp layers refl

-- the target is looked at at the Exit: 8 x = NULL;  9 x->next = cons(NULL);
target_is_null :
    always
    (with_funcs nodes 4 0 (cons ∷ [])
    (null (var 3) 8 ∷ Call 0 (give_null ∷ []) (Some (PtrDest (arrow 3 0))) 9 ∷ leave 10 ∷ []) (3 ∷ []) [] 11) [] 20
    ≡ Fault NullDeref 9 6
unfolding leaks run
target_is_null = simp layers refl

-- a `malloc` in a function takes its choice there
cons_starves : failing one_cons [] 20 ≡ Starved 2
unfolding leaks run
cons_starves = simp layers refl

cons_meets_null : failing one_cons (0 ∷ []) 20 ≡ Fault NullDeref 4 3
unfolding leaks run
cons_meets_null = simp layers refl

-- Calls in calls

-- void f0(void) { 1 return; }
abbrev f0 : Func
f0 = func [] [] None (back_none 0 1 ∷ []) [] [] 1

-- void f1(void) { 2 f0();  3 f0(); } and void f2(void) { 4 f1();  5 f1(); }
abbrev twice : ℕ → ℕ → Func
twice f line = func [] [] None (Call f [] None line ∷ Call f [] None (line + 1) ∷ []) [] [] (line + 1)

-- Enter f1; Enter, Leave and Exit of f0, twice; Exit f1; return
two_deep : always (with_funcs [] 0 0 (f0 ∷ twice 0 2 ∷ []) (Call 1 [] None 6 ∷ leave 7 ∷ []) [] [] 8) [] 30 ≡ Ended 9
unfolding leaks run
two_deep = simp layers refl

-- as deep as there are functions: a call of f1 takes 8 steps, one of f2 twice as many and two
three_deep :
    always (with_funcs [] 0 0 (f0 ∷ twice 0 2 ∷ twice 1 4 ∷ []) (Call 2 [] None 6 ∷ leave 7 ∷ []) [] [] 8) [] 30
    ≡ Ended 19
unfolding leaks run
three_deep = simp layers refl

-- the functions in another order: f2, f1, f0
other_order :
    always (with_funcs [] 0 0 (twice 1 4 ∷ twice 2 2 ∷ func [] [] None [] [] [] 1 ∷ []) (Call 0 [] None 6 ∷ []) [] [] 7)
    [] 30 ≡ Ended 14
unfolding leaks run
other_order = simp layers refl

-- Arguments

-- 2 void f(struct item *a, struct item *b, int c) { 3 a->key = c; } (0 is a, 1 is b, data 0 is c), main has x (2)
abbrev f_of_three : Func
f_of_three =
    func (PtrVar 0 ∷ PtrVar 1 ∷ DatumVar 0 ∷ []) [] None (copy_data (key 0 0) (DataVar 0) 3 ∷ []) [] [] 3

-- 5 x = malloc();  6 x->left = NULL;  7 f(.., .., ..);  8 if (x->key == 3) 9 exit(0);  10 return 0;
abbrev calling : List Arg → Program
calling args =
    with_funcs items 3 1 (f_of_three ∷ [])
    (new (var 2) 5 ∷ null (arrow 2 0) 6 ∷ Call 0 args None 7
    ∷ Branch (compare_data (DataOpPath (key 2 0)) (DataOpKnown 3) true 8) (halt 9 ∷ []) [] ∷ leave 10 ∷ [])
    (2 ∷ []) [] 11

-- an argument that cannot be read is a fault of the Enter: x->left is NULL, so x->left->left is not there
argument_faults :
    always (calling (give_ptr (arrow 2 0) ∷ give_ptr (arrows 2 0 0) ∷ give_known 3 ∷ [])) [] 20 ≡ Fault NullDeref 7 3
unfolding leaks run
argument_faults = simp layers refl

-- arguments are looked at from the left: x->right was not set
leftmost_faults :
    always (calling (give_ptr (arrows 2 1 0) ∷ give_ptr (arrows 2 0 0) ∷ give_known 3 ∷ [])) [] 20
    ≡ Fault UninitDeref 7 3
unfolding leaks run
leftmost_faults = simp layers refl

-- a parameter that is NULL is followed in the body: its line, and a step later
parameter_faults :
    always (calling (give_ptr (arrow 2 0) ∷ give_ptr (var 2) ∷ give_known 3 ∷ [])) [] 20 ≡ Fault NullDeref 3 4
unfolding leaks run
parameter_faults = simp layers refl

-- each parameter has its own argument: f(x, x->left, 3) writes 3 to x->key
parameters_apart :
    always (calling (give_ptr (var 2) ∷ give_ptr (arrow 2 0) ∷ give_known 3 ∷ [])) [] 20 ≡ Ended 7
unfolding leaks run
parameters_apart = simp layers refl

-- and f(x, x->left, 2) writes 2; x is lost at the end
other_argument :
    always (calling (give_ptr (var 2) ∷ give_ptr (arrow 2 0) ∷ give_known 2 ∷ [])) [] 20 ≡ Fault Leak 10 7
unfolding leaks run
other_argument = simp layers refl

-- Results

-- int f(void) { }  3 int b = f();  4 if (b == 1) ;  (0 is the result, 1 is b)
result_unset :
    always
    (with_funcs [] 0 2 (func [] [] (Some (DatumVar 0)) [] [] [] 2 ∷ [])
    (Call 0 [] (Some (DataDest (DataVar 1))) 3 ∷ Branch (has 1 1 4) [] [] ∷ leave 5 ∷ []) [] (1 ∷ []) 6) [] 20
    ≡ Fault IndetTest 4 3
unfolding leaks run
result_unset = simp layers refl

-- int f(int a) { 2 return a; }  3 int b = f(1);  4 if (b == 1) 5 exit(0);  (0 is the result, 1 is a, 2 is b)
abbrev same_datum : List Stmt → Program
same_datum rest =
    with_funcs [] 0 3
    (func (DatumVar 1 ∷ []) [] (Some (DatumVar 0)) (back 0 (give_datum (DataVar 1)) 2 ∷ []) [] [] 2 ∷ [])
    (Call 0 (give_known 1 ∷ []) (Some (DataDest (DataVar 2))) 3 ∷ rest) [] (2 ∷ []) 6

result_is_given : always (same_datum (Branch (has 2 1 4) (halt 5 ∷ []) [] ∷ [])) [] 20 ≡ Ended 5
unfolding leaks run
result_is_given = simp layers refl

-- the result dies at the Exit, and so does the parameter
result_dies : always (same_datum (Branch (has 0 1 4) [] [] ∷ [])) [] 20 ≡ Fault IndetTest 4 4
unfolding leaks run
result_dies = simp layers refl

parameter_dies : always (same_datum (Branch (has 1 1 4) [] [] ∷ [])) [] 20 ≡ Fault IndetTest 4 4
unfolding leaks run
parameter_dies = simp layers refl

-- Local variables

-- 1 void f(void) { 2 struct node *p = malloc();  3 return; } 4, or without the `return`; 5 f();
abbrev holding : List Stmt → Program
holding rest =
    with_funcs nodes 1 0 (func [] (PtrVar 0 ∷ []) None (new (var 0) 2 ∷ rest) (0 ∷ []) [] 4 ∷ [])
    (Call 0 [] None 5 ∷ leave 6 ∷ []) [] [] 7

local_leaks_at_return : always (holding (back_none 0 3 ∷ [])) [] 20 ≡ Fault Leak 3 3
unfolding leaks run
local_leaks_at_return = simp layers refl

local_leaks_at_the_end : always (holding []) [] 20 ≡ Fault Leak 4 3
unfolding leaks run
local_leaks_at_the_end = simp layers refl

-- `exit` in a function ends the run, with a cell alive
exit_in_a_function : always (holding (halt 3 ∷ [])) [] 20 ≡ Ended 3
unfolding leaks run
exit_in_a_function = simp layers refl

-- what a local variable held is gone in the next call: int f(int a) { int l; if (a == 1 2) { 3 l = 1; } 4 return l; }
-- 5 b = f(1);  6 b = f(0);  7 if (b == 1) ;  (0 is the result, 1 is a, 2 is l, 3 is b)
local_dies :
    always
    (with_funcs [] 0 4
    (func (DatumVar 1 ∷ []) (DatumVar 2 ∷ []) (Some (DatumVar 0))
    (Branch (has 1 1 2) (put (DataVar 2) 1 3 ∷ []) [] ∷ back 0 (give_datum (DataVar 2)) 4 ∷ []) [] (2 ∷ []) 4 ∷ [])
    (Call 0 (give_known 1 ∷ []) (Some (DataDest (DataVar 3))) 5
    ∷ Call 0 (give_known 0 ∷ []) (Some (DataDest (DataVar 3))) 6 ∷ Branch (has 3 1 7) [] [] ∷ []) [] (3 ∷ []) 8) [] 20
    ≡ Fault IndetTest 7 10
unfolding leaks run
local_dies = simp layers refl

-- Freed cells

-- 2 void drop(struct node *n) { free(n); }  4 x = malloc();  5 drop(x);  6 drop(x);  (0 is n, 1 is x)
freed_twice :
    always
    (with_funcs nodes 2 0 (func (PtrVar 0 ∷ []) [] None (free (var 0) 2 ∷ []) [] [] 2 ∷ [])
    (new (var 1) 4 ∷ Call 0 (give_ptr (var 1) ∷ []) None 5 ∷ Call 0 (give_ptr (var 1) ∷ []) None 6 ∷ leave 7 ∷ [])
    (1 ∷ []) [] 8) [] 20 ≡ Fault DoubleFree 2 6
unfolding leaks run
freed_twice = simp layers refl

-- Loops

-- 2 void f(void) { while (nondet()) {} }  4 while (1) { 5 f();  6 break; }  7 return 0;
abbrev breaking : Program
breaking =
    with_funcs [] 0 0 (func [] [] None (While (choice 2) [] ∷ []) [] [] 2 ∷ [])
    (While (literal true 4) (Call 0 [] None 5 ∷ break 6 ∷ []) ∷ leave 7 ∷ []) [] [] 8

break_after_a_call : always breaking (0 ∷ []) 20 ≡ Ended 6
unfolding leaks run
break_after_a_call = simp layers refl

break_after_a_longer_call : always breaking (1 ∷ 0 ∷ []) 20 ≡ Ended 7
unfolding leaks run
break_after_a_longer_call = simp layers refl

-- a `return` within loops and blocks removes all of them:
-- 2 void f(void) { while (1) { int y;  3 y = 1;  4 return; } } 5
-- 6 while (1) { 7 f();  8 break; }  9 return 0;
return_from_a_loop :
    always
    (with_funcs [] 0 1
    (func [] (DatumVar 0 ∷ []) None
    (While (literal true 2) (Group (put (DataVar 0) 1 3 ∷ back_none 0 4 ∷ []) [] (0 ∷ []) 5 ∷ []) ∷ []) [] [] 5 ∷ [])
    (While (literal true 6) (Call 0 [] None 7 ∷ break 8 ∷ []) ∷ leave 9 ∷ []) [] [] 9) [] 20 ≡ Ended 8
unfolding leaks run
return_from_a_loop = simp layers refl

-- a `return` leaves its own call, whatever calls its body would still make, and whatever these would call:
-- int f(int a) { 2 if (a == 1) { 3 return 1; } 4 g();  5 return 0; }  void g(void) { 6 h(); }  void h(void) { } 7
-- 8 b = f(..);  9 if (b == 1) 10 exit(0);  11 return 0;  (0 is the result, 1 is a, 2 is b)
abbrev returning : ℕ → Program
returning k =
    with_funcs [] 0 3
    (func (DatumVar 1 ∷ []) [] (Some (DatumVar 0))
    (Branch (has 1 1 2) (back 0 (give_known 1) 3 ∷ []) [] ∷ Call 1 [] None 4 ∷ back 0 (give_known 0) 5 ∷ []) [] [] 5
    ∷ func [] [] None (Call 2 [] None 6 ∷ []) [] [] 6 ∷ func [] [] None [] [] [] 7 ∷ [])
    (Call 0 (give_known k ∷ []) (Some (DataDest (DataVar 2))) 8 ∷ Branch (has 2 1 9) (halt 10 ∷ []) [] ∷ leave 11 ∷ [])
    [] (2 ∷ []) 12

-- Enter, test, Leave, Exit, test, exit
return_before_a_call : always (returning 1) [] 20 ≡ Ended 6
unfolding leaks run
return_before_a_call = simp layers refl

-- Enter, test, Enter and Exit of g and of h, Leave, Exit, test, return
no_return_before_a_call : always (returning 0) [] 20 ≡ Ended 10
unfolding leaks run
no_return_before_a_call = simp layers refl

-- A call within a call, and a target with an arrow

-- 2 struct node *id(struct node *a) { return a; }  (0 is the result, 1 is a)
-- 3 struct node *two(struct node *b) { 4 b = id(b);  5 b = id(b);  6 return b; }  (2 is the result, 3 is b)
-- 7 x = malloc();  8 x->next = NULL;  9 x->next = two(x->next);  10 free(x);  11 return 0;  (4 is x)
id_of_id :
    always
    (with_funcs nodes 5 0
    (func (PtrVar 1 ∷ []) [] (Some (PtrVar 0)) (back 0 (give_ptr (var 1)) 2 ∷ []) [] [] 2
    ∷ func (PtrVar 3 ∷ []) [] (Some (PtrVar 2))
    (Call 0 (give_ptr (var 3) ∷ []) (Some (PtrDest (var 3))) 4
    ∷ Call 0 (give_ptr (var 3) ∷ []) (Some (PtrDest (var 3))) 5 ∷ back 1 (give_ptr (var 3)) 6 ∷ []) [] [] 6 ∷ [])
    (new (var 4) 7 ∷ null (arrow 4 0) 8 ∷ Call 1 (give_ptr (arrow 4 0) ∷ []) (Some (PtrDest (arrow 4 0))) 9
    ∷ free (var 4) 10 ∷ leave 11 ∷ []) (4 ∷ []) [] 12) [] 30 ≡ Ended 13
unfolding leaks run
id_of_id = simp layers refl

-- References that are taken away

-- variable 0 refers to a cell, variable 1 does not; there is one data variable
abbrev held : Store
held = record { vars = Cell 1 ∷ Null ∷ []; data_vars = Undefined ∷ []; cells = []; next = 2 }

parameter_held : loses (Enter (DatumVar 0 ∷ PtrVar 1 ∷ PtrVar 0 ∷ []) [] 3 Done) held ≡ true
parameter_held = refl

parameters_free : loses (Enter (DatumVar 0 ∷ PtrVar 1 ∷ []) [] 3 Done) held ≡ false
parameters_free = refl

returned_over_a_cell : loses (Leave (Some (PtrVar 0)) [] None 3 Done) held ≡ true
returned_over_a_cell = refl

local_held : loses (Leave (Some (PtrVar 1)) (PtrVar 0 ∷ []) None 3 Done) held ≡ true
local_held = refl

locals_free : loses (Leave (Some (DatumVar 0)) (PtrVar 1 ∷ []) None 3 Done) held ≡ false
locals_free = refl

target_held : loses (Exit (Some (PtrVar 1)) [] (Some (PtrDest (var 0))) 3 Done) held ≡ true
target_held = refl

result_held : loses (Exit (Some (PtrVar 0)) [] (Some (PtrDest (var 1))) 3 Done) held ≡ true
result_held = refl

last_parameter_held : loses (Exit None (PtrVar 1 ∷ PtrVar 0 ∷ []) None 3 Done) held ≡ true
last_parameter_held = refl

none_held : loses (Exit (Some (PtrVar 1)) (DatumVar 0 ∷ []) (Some (PtrDest (var 1))) 3 Done) held ≡ false
none_held = refl

datum_over : loses (Exit (Some (DatumVar 0)) [] (Some (DataDest (DataVar 0))) 3 Done) held ≡ false
datum_over = refl
