-- Rows on faults of pointers, and on the order of evaluation. p, q, r are the variables 0, 1, 2.
use Rattle.std.proofs.Common.{◌≡◌, Bool, true, false, List, [], ◌∷◌, refl}
use Rattle.fore_base.specs.declared.fault.Fault.TheVariants.{NullDeref, UninitDeref, DanglingDeref, InvalidFree}
use Rattle.fore_base.specs.declared.fault.Fault.TheVariants.{DoubleFree, Assertion, IndetTest}
use Rattle.fore_base.specs.Heap.{leaks}
use Rattle.c_types.specs.declared.program.PtrOp.TheVariants.{Path as OpPath, Null as OpNull}
use Rattle.c_types.specs.declared.program.Stmt.{Stmt}
use Rattle.c_types.specs.declared.program.Stmt.TheVariants.{Branch}
use Rattle.c_types.specs.declared.outcome.Outcome.TheVariants.{Ended, Fault}
use Rattle.c_types.specs.Program.{Program}
use Rattle.c_types.specs.Runs.{run}
use Rattle.c_types.proofs.Layers.{layers}
use Rattle.c_types.proofs.Rows.Forms.{always, nodes, items, var, arrow, arrows, compare, null, new, copy, free, error}
use Rattle.c_types.proofs.Rows.Forms.{halt}
use Rattle.c_types.proofs.Rows.Forms.{leave, block, main}

-- Arrows

-- 2 q = p->next;
uninit_read : always (main nodes 2 0 (copy (var 1) (arrow 0 0) 2 ∷ []) 9) [] 20 ≡ Fault UninitDeref 2 1
unfolding leaks run
uninit_read = simp layers refl

-- 2 p = NULL;  3 q = p->next;
null_read : always (main nodes 2 0 (null (var 0) 2 ∷ copy (var 1) (arrow 0 0) 3 ∷ []) 9) [] 20 ≡ Fault NullDeref 3 2
unfolding leaks run
null_read = simp layers refl

-- 2 p = malloc();  3 free(p);  4 q = p->next;
dangling_read : always (main nodes 2 0 (new (var 0) 2 ∷ free (var 0) 3 ∷ copy (var 1) (arrow 0 0) 4 ∷ []) 9) [] 20
    ≡ Fault DanglingDeref 4 3
unfolding leaks run
dangling_read = simp layers refl

-- 2 p->next = NULL;
uninit_write : always (main nodes 1 0 (null (arrow 0 0) 2 ∷ []) 9) [] 20 ≡ Fault UninitDeref 2 1
unfolding leaks run
uninit_write = simp layers refl

-- 2 p = NULL;  3 p->next = NULL;
null_write : always (main nodes 1 0 (null (var 0) 2 ∷ null (arrow 0 0) 3 ∷ []) 9) [] 20 ≡ Fault NullDeref 3 2
unfolding leaks run
null_write = simp layers refl

-- 2 p = malloc();  3 free(p);  4 p->next = NULL;
dangling_write : always (main nodes 1 0 (new (var 0) 2 ∷ free (var 0) 3 ∷ null (arrow 0 0) 4 ∷ []) 9) [] 20
    ≡ Fault DanglingDeref 4 3
unfolding leaks run
dangling_write = simp layers refl

-- a new cell's fields are not set; reading one is no fault, following it is
-- 2 p = malloc();  3 q = p->next;  4 q->next = NULL;
new_field : always (main nodes 2 0 (new (var 0) 2 ∷ copy (var 1) (arrow 0 0) 3 ∷ null (arrow 1 0) 4 ∷ []) 9) [] 20
    ≡ Fault UninitDeref 4 3
unfolding leaks run
new_field = simp layers refl

-- two arrows
-- 2 p = malloc();  3 p->next = NULL;  4 q = p->next->next;
second_arrow_read : always (main nodes 2 0
    (new (var 0) 2 ∷ null (arrow 0 0) 3 ∷ copy (var 1) (arrows 0 0 0) 4 ∷ []) 9) []
    20 ≡ Fault NullDeref 4 3
unfolding leaks run
second_arrow_read = simp layers refl

-- 2 p = malloc();  3 p->next = NULL;  4 p->next->next = p;
second_arrow_write : always (main nodes 1 0
    (new (var 0) 2 ∷ null (arrow 0 0) 3 ∷ copy (arrows 0 0 0) (var 0) 4 ∷ []) 9) []
    20 ≡ Fault NullDeref 4 3
unfolding leaks run
second_arrow_write = simp layers refl

-- 2 p = malloc();  3 p->next = malloc();  4 p->next->next = NULL;  5 q = p->next->next;  6 q = q->next;
two_arrows :
    always
    (main nodes 2 0 (new (var 0) 2 ∷ new (arrow 0 0) 3 ∷ null (arrows 0 0 0) 4 ∷ copy (var 1) (arrows 0 0 0) 5
    ∷ copy (var 1) (arrow 1 0) 6 ∷ []) 9) [] 20 ≡ Fault NullDeref 6 5
unfolding leaks run
two_arrows = simp layers refl

-- the write has changed the second cell alone: 5 q = p->next;  6 q = q->next;  7 q = q->next;
two_arrows_second_cell :
    always
    (main nodes 2 0 (new (var 0) 2 ∷ new (arrow 0 0) 3 ∷ null (arrows 0 0 0) 4 ∷ copy (var 1) (arrow 0 0) 5
    ∷ copy (var 1) (arrow 1 0) 6 ∷ copy (var 1) (arrow 1 0) 7 ∷ []) 9) [] 20 ≡ Fault NullDeref 7 6
unfolding leaks run
two_arrows_second_cell = simp layers refl

-- fields are told apart: left is 0, right is 1
-- 2 p = malloc();  3 p->right = NULL;  4 q = p->left;  5 q->left = NULL;
left_is_not_right :
    always (main items 2 0 (new (var 0) 2 ∷ null (arrow 0 1) 3 ∷ copy (var 1) (arrow 0 0) 4 ∷ null (arrow 1 0) 5
    ∷ []) 9)
    [] 20 ≡ Fault UninitDeref 5 4
unfolding leaks run
left_is_not_right = simp layers refl

-- 4 q = p->right;  5 q->left = NULL;
right_was_set :
    always (main items 2 0 (new (var 0) 2 ∷ null (arrow 0 1) 3 ∷ copy (var 1) (arrow 0 1) 4 ∷ null (arrow 1 0) 5
    ∷ []) 9)
    [] 20 ≡ Fault NullDeref 5 4
unfolding leaks run
right_was_set = simp layers refl

-- cells are told apart: 2 p = malloc();  3 q = malloc();  4 p->next = NULL;  5 r = q->next;  6 r->next = NULL;
first_cell :
    always
    (main nodes 3 0 (new (var 0) 2 ∷ new (var 1) 3 ∷ null (arrow 0 0) 4 ∷ copy (var 2) (arrow 1 0) 5
    ∷ null (arrow 2 0) 6 ∷ []) 9) [] 20 ≡ Fault UninitDeref 6 5
unfolding leaks run
first_cell = simp layers refl

-- Variables

-- 2 p = NULL;  3 q = p;  4 q->next = NULL;
copied : always (main nodes 2 0 (null (var 0) 2 ∷ copy (var 1) (var 0) 3 ∷ null (arrow 1 0) 4 ∷ []) 9) [] 20
    ≡ Fault NullDeref 4 3
unfolding leaks run
copied = simp layers refl

-- 2 p = NULL;  3 q->next = NULL;
other_variable : always (main nodes 2 0 (null (var 0) 2 ∷ null (arrow 1 0) 3 ∷ []) 9) [] 20 ≡ Fault UninitDeref 3 2
unfolding leaks run
other_variable = simp layers refl

-- free

-- 2 free(p);
free_uninit : always (main nodes 1 0 (free (var 0) 2 ∷ []) 9) [] 20 ≡ Fault InvalidFree 2 1
unfolding leaks run
free_uninit = simp layers refl

-- 2 p = NULL;  3 free(p);  4 return 0;
free_null : always (main nodes 1 0 (null (var 0) 2 ∷ free (var 0) 3 ∷ leave 4 ∷ []) 9) [] 20 ≡ Ended 3
unfolding leaks run
free_null = simp layers refl

-- 2 p = malloc();  3 free(p);  4 free(p);
free_twice : always (main nodes 1 0 (new (var 0) 2 ∷ free (var 0) 3 ∷ free (var 0) 4 ∷ []) 9) [] 20
    ≡ Fault DoubleFree 4 3
unfolding leaks run
free_twice = simp layers refl

-- 2 p = malloc();  3 q = p;  4 free(p);  5 free(q);
free_alias : always (main nodes 2 0 (new (var 0) 2 ∷ copy (var 1) (var 0) 3 ∷ free (var 0) 4 ∷ free (var 1) 5 ∷ []) 9)
    []
    20 ≡ Fault DoubleFree 5 4
unfolding leaks run
free_alias = simp layers refl

-- 2 p = malloc();  3 p->next = malloc();  4 q = p->next;  5 free(q);  6 free(p->next);
free_field :
    always
    (main nodes 2 0 (new (var 0) 2 ∷ new (arrow 0 0) 3 ∷ copy (var 1) (arrow 0 0) 4 ∷ free (var 1) 5
    ∷ free (arrow 0 0) 6 ∷ []) 9) [] 20 ≡ Fault DoubleFree 6 5
unfolding leaks run
free_field = simp layers refl

-- 2 p = NULL;  3 free(p->next);
free_of_null_arrow : always (main nodes 1 0 (null (var 0) 2 ∷ free (arrow 0 0) 3 ∷ []) 9) [] 20 ≡ Fault NullDeref 3 2
unfolding leaks run
free_of_null_arrow = simp layers refl

-- 2 p = malloc();  3 q = malloc();  4 free(p);  5 q->next = NULL;  6 free(q);  7 return 0;
free_one_of_two :
    always
    (main nodes 2 0 (new (var 0) 2 ∷ new (var 1) 3 ∷ free (var 0) 4 ∷ null (arrow 1 0) 5 ∷ free (var 1) 6 ∷ leave 7
    ∷ []) 9) [] 20 ≡ Ended 6
unfolding leaks run
free_one_of_two = simp layers refl

-- a number is never used again: 2 p = malloc();  3 q = p;  4 free(p);  5 p = malloc();  6 q->next = NULL;
numbers_are_new :
    always
    (main nodes 2 0 (new (var 0) 2 ∷ copy (var 1) (var 0) 3 ∷ free (var 0) 4 ∷ new (var 0) 5 ∷ null (arrow 1 0) 6 ∷ [])
    9) [] 20 ≡ Fault DanglingDeref 6 5
unfolding leaks run
numbers_are_new = simp layers refl

-- Comparing: if (p == q) 5 exit(0); else 6 error();

abbrev compares : List Stmt → Bool → Program
compares before equal = main nodes 3 0
    (block before ∷ Branch (compare (OpPath (var 0)) (OpPath (var 1)) equal 4) (halt 5 ∷ []) (error 6 ∷ []) ∷ []) 9

null_is_null : always (compares (null (var 0) 2 ∷ null (var 1) 3 ∷ []) true) [] 20 ≡ Ended 4
unfolding leaks run
null_is_null = simp layers refl

null_is_not_null : always (compares (null (var 0) 2 ∷ null (var 1) 3 ∷ []) false) [] 20 ≡ Fault Assertion 6 4
unfolding leaks run
null_is_not_null = simp layers refl

cell_is_not_null : always (compares (new (var 0) 2 ∷ null (var 1) 3 ∷ []) true) [] 20 ≡ Fault Assertion 6 4
unfolding leaks run
cell_is_not_null = simp layers refl

null_is_not_cell : always (compares (null (var 0) 2 ∷ new (var 1) 3 ∷ []) true) [] 20 ≡ Fault Assertion 6 4
unfolding leaks run
null_is_not_cell = simp layers refl

cell_differs_from_null : always (compares (new (var 0) 2 ∷ null (var 1) 3 ∷ []) false) [] 20 ≡ Ended 4
unfolding leaks run
cell_differs_from_null = simp layers refl

null_differs_from_cell : always (compares (null (var 0) 2 ∷ new (var 1) 3 ∷ []) false) [] 20 ≡ Ended 4
unfolding leaks run
null_differs_from_cell = simp layers refl

same_cell : always (compares (new (var 0) 2 ∷ copy (var 1) (var 0) 3 ∷ []) true) [] 20 ≡ Ended 4
unfolding leaks run
same_cell = simp layers refl

same_cell_differs : always (compares (new (var 0) 2 ∷ copy (var 1) (var 0) 3 ∷ []) false) [] 20 ≡ Fault Assertion 6 4
unfolding leaks run
same_cell_differs = simp layers refl

two_cells : always (compares (new (var 0) 2 ∷ new (var 1) 3 ∷ []) true) [] 20 ≡ Fault Assertion 6 4
unfolding leaks run
two_cells = simp layers refl

two_cells_differ : always (compares (new (var 0) 2 ∷ new (var 1) 3 ∷ []) false) [] 20 ≡ Ended 4
unfolding leaks run
two_cells_differ = simp layers refl

uninit_and_null : always (compares (null (var 1) 3 ∷ []) true) [] 20 ≡ Fault IndetTest 4 2
unfolding leaks run
uninit_and_null = simp layers refl

null_and_uninit : always (compares (null (var 0) 2 ∷ []) true) [] 20 ≡ Fault IndetTest 4 2
unfolding leaks run
null_and_uninit = simp layers refl

cell_and_uninit : always (compares (new (var 0) 2 ∷ []) true) [] 20 ≡ Fault IndetTest 4 2
unfolding leaks run
cell_and_uninit = simp layers refl

uninit_and_uninit : always (compares [] true) [] 20 ≡ Fault IndetTest 4 1
unfolding leaks run
uninit_and_uninit = simp layers refl

dangling_and_null : always (compares (new (var 0) 2 ∷ free (var 0) 3 ∷ null (var 1) 3 ∷ []) false) [] 20
    ≡ Fault IndetTest 4 4
unfolding leaks run
dangling_and_null = simp layers refl

null_and_dangling : always (compares (new (var 1) 2 ∷ free (var 1) 3 ∷ null (var 0) 3 ∷ []) false) [] 20
    ≡ Fault IndetTest 4 4
unfolding leaks run
null_and_dangling = simp layers refl

cell_and_dangling : always (compares (new (var 1) 2 ∷ free (var 1) 3 ∷ new (var 0) 3 ∷ []) true) [] 20
    ≡ Fault IndetTest 4 4
unfolding leaks run
cell_and_dangling = simp layers refl

-- a constant at the left: 2 p = NULL;  if (NULL == p 3) 4 exit(0);  5 error();
null_constant_first : always
    (main nodes 1 0 (null (var 0) 2 ∷ Branch (compare OpNull (OpPath (var 0)) true 3) (halt 4 ∷ []) [] ∷ error 5 ∷ [])
    9) [] 20 ≡ Ended 3
unfolding leaks run
null_constant_first = simp layers refl

-- the left operand is looked at before the right one: 2 q = NULL;  if (p->next == q->next 3) ;
left_operand_first : always
    (main nodes 2 0 (null (var 1) 2 ∷ Branch (compare (OpPath (arrow 0 0)) (OpPath (arrow 1 0)) true 3) [] [] ∷ []) 9)
    [] 20 ≡ Fault UninitDeref 3 2
unfolding leaks run
left_operand_first = simp layers refl

-- and the right one before the test: 2 q = NULL;  if (p == q->next 3) ;
right_operand_before_the_test :
    always (main nodes 2 0 (null (var 1) 2 ∷ Branch (compare (OpPath (var 0)) (OpPath (arrow 1 0)) true 3) [] []
    ∷ []) 9)
    [] 20 ≡ Fault NullDeref 3 2
unfolding leaks run
right_operand_before_the_test = simp layers refl

-- Assigning

-- the right side first: 2 q = NULL;  3 p->next = q->next;
right_side_first : always (main nodes 2 0 (null (var 1) 2 ∷ copy (arrow 0 0) (arrow 1 0) 3 ∷ []) 9) [] 20
    ≡ Fault NullDeref 3 2
unfolding leaks run
right_side_first = simp layers refl

-- then the path before its last arrow: 2 p = NULL;  3 p->next->next = q;
left_path_next : always (main nodes 2 0 (null (var 0) 2 ∷ copy (arrows 0 0 0) (var 1) 3 ∷ []) 9) [] 20
    ≡ Fault NullDeref 3 2
unfolding leaks run
left_path_next = simp layers refl

-- an indeterminate value may be copied, also into a cell: 2 p = malloc();  3 p->next = q;  4 free(p);  5 return 0;
uninit_is_copied : always (main nodes 2 0
    (new (var 0) 2 ∷ copy (arrow 0 0) (var 1) 3 ∷ free (var 0) 4 ∷ leave 5 ∷ []) 9)
    [] 20 ≡ Ended 4
unfolding leaks run
uninit_is_copied = simp layers refl

-- a new cell that finds no place is no leak but the fault: 2 p = NULL;  3 p->next = malloc();
new_to_null : always (main nodes 1 0 (null (var 0) 2 ∷ new (arrow 0 0) 3 ∷ []) 9) [] 20 ≡ Fault NullDeref 3 2
unfolding leaks run
new_to_null = simp layers refl

-- Errors

-- 2 error();
error_alone : always (main nodes 0 0 (error 2 ∷ []) 9) [] 20 ≡ Fault Assertion 2 1
unfolding leaks run
error_alone = simp layers refl
