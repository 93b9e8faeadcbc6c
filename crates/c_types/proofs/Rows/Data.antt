-- Rows on data. x and y are the data variables 0 and 1, p and q the pointer variables 0 and 1.
use Rattle.std.proofs.Common.{◌≡◌, ℕ, true, false, [], ◌∷◌, refl}
use Rattle.fore_base.specs.declared.fault.Fault.TheVariants.{NullDeref, UninitDeref, DanglingDeref, Assertion}
use Rattle.fore_base.specs.declared.fault.Fault.TheVariants.{IndetTest}
use Rattle.fore_base.specs.Heap.{leaks}
use Rattle.c_types.specs.declared.program.DataPath.TheVariants.{Var as DataVar, Field as DataField}
use Rattle.c_types.specs.declared.program.PtrOp.TheVariants.{Path as OpPath, Null as OpNull}
use Rattle.c_types.specs.declared.program.DataOp.TheVariants.{Path as DataOpPath, Known as DataOpKnown}
use Rattle.c_types.specs.declared.program.Cond.{Cond}
use Rattle.c_types.specs.declared.program.Stmt.TheVariants.{Branch}
use Rattle.c_types.specs.declared.outcome.Outcome.TheVariants.{Ended, Fault}
use Rattle.c_types.specs.Program.{Program}
use Rattle.c_types.specs.Runs.{run}
use Rattle.c_types.proofs.Layers.{layers}
use Rattle.c_types.proofs.Rows.Forms.{always, items, var, arrow, key, compare, compare_data, has, has_not, null, new}
use Rattle.c_types.proofs.Rows.Forms.{free, put}
use Rattle.c_types.proofs.Rows.Forms.{copy_data, error, halt, leave, main}

-- 2 x = k;  if (c 3) 4 exit(0);  5 error();
abbrev with_x : ℕ → Cond → Program
with_x k c = main [] 0 2 (put (DataVar 0) k 2 ∷ Branch c (halt 4 ∷ []) [] ∷ error 5 ∷ []) 9

equal : always (with_x 3 (has 0 3 3)) [] 20 ≡ Ended 3
unfolding leaks run
equal = simp layers refl

not_equal : always (with_x 3 (has 0 4 3)) [] 20 ≡ Fault Assertion 5 3
unfolding leaks run
not_equal = simp layers refl

differs : always (with_x 3 (has_not 0 4 3)) [] 20 ≡ Ended 3
unfolding leaks run
differs = simp layers refl

does_not_differ : always (with_x 3 (has_not 0 3 3)) [] 20 ≡ Fault Assertion 5 3
unfolding leaks run
does_not_differ = simp layers refl

greatest : always (with_x 15 (has 0 15 3)) [] 20 ≡ Ended 3
unfolding leaks run
greatest = simp layers refl

constants : always (with_x 0 (compare_data (DataOpKnown 2) (DataOpKnown 2) true 3)) [] 20 ≡ Ended 3
unfolding leaks run
constants = simp layers refl

constant_first : always (with_x 1 (compare_data (DataOpKnown 0) (DataOpPath (DataVar 0)) true 3)) [] 20
    ≡ Fault Assertion 5 3
unfolding leaks run
constant_first = simp layers refl

right_undefined : always (with_x 1 (compare_data (DataOpPath (DataVar 0)) (DataOpPath (DataVar 1)) true 3)) [] 20
    ≡ Fault IndetTest 3 2
unfolding leaks run
right_undefined = simp layers refl

left_undefined : always (with_x 1 (compare_data (DataOpPath (DataVar 1)) (DataOpPath (DataVar 0)) false 3)) [] 20
    ≡ Fault IndetTest 3 2
unfolding leaks run
left_undefined = simp layers refl

-- 2 x = 1;  3 y = x;  if (y == 1 4) 5 exit(0);
copied :
    always
    (main [] 0 2 (put (DataVar 0) 1 2 ∷ copy_data (DataVar 1) (DataVar 0) 3 ∷ Branch (has 1 1 4) (halt 5 ∷ []) []
    ∷ error 6 ∷ []) 9) [] 20 ≡ Ended 4
unfolding leaks run
copied = simp layers refl

-- 2 y = x;  3 return 0;  (an undefined datum may be copied)
undefined_is_copied : always (main [] 0 2 (copy_data (DataVar 1) (DataVar 0) 2 ∷ leave 3 ∷ []) 9) [] 20 ≡ Ended 2
unfolding leaks run
undefined_is_copied = simp layers refl

-- 2 y = 1;  3 y = x;  if (y == 1 4) ;
undefined_stays_so : always
    (main [] 0 2 (put (DataVar 1) 1 2 ∷ copy_data (DataVar 1) (DataVar 0) 3 ∷ Branch (has 1 1 4) [] [] ∷ []) 9) [] 20
    ≡ Fault IndetTest 4 3
unfolding leaks run
undefined_stays_so = simp layers refl

-- Fields

-- 2 p = malloc();  3 p->key = 7;  4 p->right = NULL;  5 p->mark = 8;  6 x = p->key;  7 if (x == 7) 8 exit(0);  9
-- error();
key_is_kept :
    always
    (main items 1 1 (new (var 0) 2 ∷ put (key 0 0) 7 3 ∷ null (arrow 0 1) 4 ∷ put (key 0 1) 8 5
    ∷ copy_data (DataVar 0) (key 0 0) 6 ∷ Branch (has 0 7 7) (halt 8 ∷ []) [] ∷ error 9 ∷ []) 10) [] 20 ≡ Ended 7
unfolding leaks run
key_is_kept = simp layers refl

-- the same with 6 x = p->mark;
mark_is_another :
    always
    (main items 1 1 (new (var 0) 2 ∷ put (key 0 0) 7 3 ∷ null (arrow 0 1) 4 ∷ put (key 0 1) 8 5
    ∷ copy_data (DataVar 0) (key 0 1) 6 ∷ Branch (has 0 8 7) (halt 8 ∷ []) [] ∷ error 9 ∷ []) 10) [] 20 ≡ Ended 7
unfolding leaks run
mark_is_another = simp layers refl

-- 2 p = malloc();  3 x = p->mark;  if (x == 0 4) ;  (a new cell's data are not set)
new_datum : always (main items 1 1
    (new (var 0) 2 ∷ copy_data (DataVar 0) (key 0 1) 3 ∷ Branch (has 0 0 4) [] [] ∷ []) 9)
    [] 20 ≡ Fault IndetTest 4 3
unfolding leaks run
new_datum = simp layers refl

-- 2 p = malloc();  3 p->right = malloc();  4 p->right->key = 5;  5 p->key = 6;  if (p->right->key == 5 6) 7 exit(0);  8
-- error();
datum_of_the_second_cell :
    always
    (main items 1 0 (new (var 0) 2 ∷ new (arrow 0 1) 3 ∷ put (DataField (arrow 0 1) 0) 5 4 ∷ put (key 0 0) 6 5
    ∷ Branch (compare_data (DataOpPath (DataField (arrow 0 1) 0)) (DataOpKnown 5) true 6) (halt 7 ∷ []) [] ∷ error 8
    ∷ []) 9) [] 20 ≡ Ended 6
unfolding leaks run
datum_of_the_second_cell = simp layers refl

-- writing a datum changes no pointer: 2 p = malloc();  3 p->left = NULL;  4 p->key = 1;  if (p->left == NULL 5) 6
-- exit(0);  7 error();
datum_is_no_pointer : always
    (main items 1 0 (new (var 0) 2 ∷ null (arrow 0 0) 3 ∷ put (key 0 0) 1 4
    ∷ Branch (compare (OpPath (arrow 0 0)) OpNull true 5) (halt 6 ∷ []) [] ∷ error 7 ∷ []) 9) [] 20 ≡ Ended 5
unfolding leaks run
datum_is_no_pointer = simp layers refl

-- Faults

-- 2 p = NULL;  3 x = p->key;
read_of_null : always (main items 1 1 (null (var 0) 2 ∷ copy_data (DataVar 0) (key 0 0) 3 ∷ []) 9) [] 20
    ≡ Fault NullDeref 3 2
unfolding leaks run
read_of_null = simp layers refl

-- 2 x = p->key;
read_of_uninit : always (main items 1 1 (copy_data (DataVar 0) (key 0 0) 2 ∷ []) 9) [] 20 ≡ Fault UninitDeref 2 1
unfolding leaks run
read_of_uninit = simp layers refl

-- 2 p = malloc();  3 free(p);  4 p->key = 1;
write_to_dangling : always (main items 1 0 (new (var 0) 2 ∷ free (var 0) 3 ∷ put (key 0 0) 1 4 ∷ []) 9) [] 20
    ≡ Fault DanglingDeref 4 3
unfolding leaks run
write_to_dangling = simp layers refl

-- 2 p = NULL;  3 p->right->key = 1;
write_over_null : always (main items 1 0 (null (var 0) 2 ∷ put (DataField (arrow 0 1) 0) 1 3 ∷ []) 9) [] 20
    ≡ Fault NullDeref 3 2
unfolding leaks run
write_over_null = simp layers refl

-- Order

-- 2 q = NULL;  if (p->key == q->key 3) ;
left_operand_first : always
    (main items 2 0 (null (var 1) 2 ∷ Branch (compare_data (DataOpPath (key 0 0)) (DataOpPath (key 1 0)) true 3) [] []
    ∷ []) 9) [] 20 ≡ Fault UninitDeref 3 2
unfolding leaks run
left_operand_first = simp layers refl

-- 2 q = NULL;  if (x == q->key 3) ;  (the right operand comes before the test)
right_operand_before_the_test :
    always
    (main items 2 1 (null (var 1) 2 ∷ Branch (compare_data (DataOpPath (DataVar 0)) (DataOpPath (key 1 0)) true 3) [] []
    ∷ []) 9) [] 20 ≡ Fault NullDeref 3 2
unfolding leaks run
right_operand_before_the_test = simp layers refl

-- 2 q = NULL;  3 p->key = q->key;
right_side_first : always (main items 2 0 (null (var 1) 2 ∷ copy_data (key 0 0) (key 1 0) 3 ∷ []) 9) [] 20
    ≡ Fault NullDeref 3 2
unfolding leaks run
right_side_first = simp layers refl
