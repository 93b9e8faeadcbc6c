-- Rows on choices and on the limit. x and y are the data variables 0 and 1, p is the pointer variable 0.
use Rattle.std.proofs.Common.{◌≡◌, true, false, [], ◌∷◌, refl}
use Rattle.fore_base.specs.declared.fault.Fault.TheVariants.{NullDeref, Assertion}
use Rattle.fore_base.specs.Heap.{leaks}
use Rattle.c_types.specs.declared.program.DataPath.TheVariants.{Var as DataVar}
use Rattle.c_types.specs.declared.program.Cond.TheVariants.{All}
use Rattle.c_types.specs.declared.program.Stmt.TheVariants.{Branch, While, DoWhile, Group}
use Rattle.c_types.specs.declared.outcome.Outcome.TheVariants.{Ended, Fault, Starved, BadChoice, StillRunning}
use Rattle.c_types.specs.Program.{Program}
use Rattle.c_types.specs.Runs.{run}
use Rattle.c_types.proofs.Layers.{layers}
use Rattle.c_types.proofs.Rows.Forms.{always, items, var, key, choice, literal, is_set, has, null, new, copy, free, put}
use Rattle.c_types.proofs.Rows.Forms.{copy_data, choose, error, halt, leave, break, continue, main}

-- 2 x = nondet_bool();  if (x == 1 3) 4 error();  5 return 0;
abbrev chosen : Program
chosen = main [] 0 1 (choose (DataVar 0) 2 ∷ Branch (has 0 1 3) (error 4 ∷ []) [] ∷ leave 5 ∷ []) 6

one_is_assigned : always (chosen) (1 ∷ []) 20 ≡ Fault Assertion 4 3
unfolding leaks run
one_is_assigned = simp layers refl

zero_is_assigned : always (chosen) (0 ∷ []) 20 ≡ Ended 3
unfolding leaks run
zero_is_assigned = simp layers refl

none_left : always (chosen) [] 20 ≡ Starved 1
unfolding leaks run
none_left = simp layers refl

two_is_bad : always (chosen) (2 ∷ []) 20 ≡ BadChoice 0
unfolding leaks run
two_is_bad = simp layers refl

-- 2 x = nondet_bool();  3 y = nondet_bool();  if (x == 1 4 && y == 0 5) 6 error();  7 return 0;
abbrev chosen_twice : Program
chosen_twice = main [] 0 2
    (choose (DataVar 0) 2 ∷ choose (DataVar 1) 3 ∷ Branch (All (has 0 1 4 ∷ has 1 0 5 ∷ [])) (error 6 ∷ []) [] ∷ leave 7
    ∷ []) 8

in_their_order : always (chosen_twice) (1 ∷ 0 ∷ []) 20 ≡ Fault Assertion 6 5
unfolding leaks run
in_their_order = simp layers refl

in_no_other_order : always (chosen_twice) (0 ∷ 1 ∷ []) 20 ≡ Ended 4
unfolding leaks run
in_no_other_order = simp layers refl

more_are_ignored : always (chosen_twice) (1 ∷ 0 ∷ 7 ∷ 1 ∷ []) 20 ≡ Fault Assertion 6 5
unfolding leaks run
more_are_ignored = simp layers refl

second_is_missing : always (chosen_twice) (1 ∷ []) 20 ≡ Starved 2
unfolding leaks run
second_is_missing = simp layers refl

second_is_bad : always (chosen_twice) (1 ∷ 3 ∷ []) 20 ≡ BadChoice 1
unfolding leaks run
second_is_bad = simp layers refl

-- while (nondet() 2) {}  3 x = nondet_bool();  4 return 0;
abbrev mixed : Program
mixed = main [] 0 1 (While (choice 2) [] ∷ choose (DataVar 0) 3 ∷ leave 4 ∷ []) 5

shared_list : always (mixed) (1 ∷ 1 ∷ 0 ∷ 1 ∷ []) 20 ≡ Ended 5
unfolding leaks run
shared_list = simp layers refl

third_is_bad : always (mixed) (1 ∷ 0 ∷ 9 ∷ []) 20 ≡ BadChoice 2
unfolding leaks run
third_is_bad = simp layers refl

test_of_two : always (mixed) (2 ∷ []) 20 ≡ BadChoice 0
unfolding leaks run
test_of_two = simp layers refl

-- a choice that is missing, or bad, after the limit is not asked for
missing_after_the_limit : always (mixed) (1 ∷ []) 1 ≡ StillRunning
unfolding leaks run
missing_after_the_limit = simp layers refl

missing_at_the_limit : always (mixed) (1 ∷ []) 2 ≡ Starved 2
unfolding leaks run
missing_at_the_limit = simp layers refl

bad_after_the_limit : always (mixed) (1 ∷ 7 ∷ []) 1 ≡ StillRunning
unfolding leaks run
bad_after_the_limit = simp layers refl

bad_at_the_limit : always (mixed) (1 ∷ 7 ∷ []) 2 ≡ BadChoice 1
unfolding leaks run
bad_at_the_limit = simp layers refl

-- 2 p = NULL;  3 p->key = nondet_bool();  (the choice is taken before the target is looked at)
abbrev to_null : Program
to_null = main items 1 0 (null (var 0) 2 ∷ choose (key 0 0) 3 ∷ []) 9

missing_before_the_target : always (to_null) [] 20 ≡ Starved 2
unfolding leaks run
missing_before_the_target = simp layers refl

bad_before_the_target : always (to_null) (2 ∷ []) 20 ≡ BadChoice 0
unfolding leaks run
bad_before_the_target = simp layers refl

then_the_target : always (to_null) (1 ∷ []) 20 ≡ Fault NullDeref 3 2
unfolding leaks run
then_the_target = simp layers refl

-- what takes no choice leaves the list alone: one of each, then 9 x = nondet_bool();  if (x == 1 10) 11 error();
untouched :
    always
    (main items 1 2 (null (var 0) 1 ∷ new (var 0) 2 ∷ copy (var 0) (var 0) 3 ∷ put (DataVar 1) 5 4
    ∷ copy_data (DataVar 1) (DataVar 1) 5 ∷ Branch (literal true 6) [] [] ∷ Branch (is_set 0 7) [] []
    ∷ Branch (has 1 5 8) [] [] ∷ free (var 0) 9 ∷ Group [] [] (1 ∷ []) 9 ∷ While (literal true 9) (break 9 ∷ [])
    ∷ DoWhile (literal false 9) (continue 9 ∷ []) ∷ choose (DataVar 0) 9 ∷ Branch (has 0 1 10) (error 11 ∷ []) [] ∷ [])
    12) (1 ∷ []) 30 ≡ Fault Assertion 11 17
unfolding leaks run
untouched = simp layers refl

return_takes_none : always (main [] 0 0 (leave 2 ∷ []) 3) [] 20 ≡ Ended 1
unfolding leaks run
return_takes_none = simp layers refl

exit_takes_none : always (main [] 0 0 (halt 2 ∷ []) 3) [] 20 ≡ Ended 1
unfolding leaks run
exit_takes_none = simp layers refl
