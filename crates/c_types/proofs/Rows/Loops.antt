-- Rows on loops, `break` and `continue`. A program is its C text with the number of each line.
use Rattle.std.proofs.Common.{◌≡◌, true, false, List, [], ◌∷◌, refl}
use Rattle.fore_base.specs.declared.fault.Fault.TheVariants.{IndetTest}
use Rattle.fore_base.specs.Heap.{leaks}
use Rattle.c_types.specs.declared.program.DataPath.TheVariants.{Var as DataVar}
use Rattle.c_types.specs.declared.program.Stmt.{Stmt}
use Rattle.c_types.specs.declared.program.Stmt.TheVariants.{Branch, While, DoWhile, For, Group}
use Rattle.c_types.specs.declared.outcome.Outcome.TheVariants.{Ended, Fault, Starved, StillRunning}
use Rattle.c_types.specs.Program.{Program}
use Rattle.c_types.specs.Runs.{run}
use Rattle.c_types.proofs.Layers.{layers}
use Rattle.c_types.proofs.Rows.Forms.{always, choice, literal, has, has_not, put, error, leave, break, continue, block}
use Rattle.c_types.proofs.Rows.Forms.{main}

-- 2 while (nondet()) {}  3 return 0;
abbrev waiting : Program
waiting = main [] 0 0 (While (choice 2) [] ∷ leave 3 ∷ []) 4

while_two_rounds : always (waiting) (1 ∷ 1 ∷ 0 ∷ []) 20 ≡ Ended 4
unfolding leaks run
while_two_rounds = simp layers refl

while_no_round : always (waiting) (0 ∷ []) 20 ≡ Ended 2
unfolding leaks run
while_no_round = simp layers refl

while_within : always (waiting) (1 ∷ 0 ∷ []) 3 ≡ Ended 3
unfolding leaks run
while_within = simp layers refl

while_short : always (waiting) (1 ∷ 0 ∷ []) 2 ≡ StillRunning
unfolding leaks run
while_short = simp layers refl

no_step : always (waiting) (0 ∷ []) 0 ≡ StillRunning
unfolding leaks run
no_step = simp layers refl

-- 2 while (nondet()) { 3 x = 1; }  4 assert(x == 1);  5 return 0;
abbrev setting : Program
setting =
    main [] 0 1 (While (choice 2) (put (DataVar 0) 1 3 ∷ []) ∷ Branch (has 0 1 4) [] (error 4 ∷ []) ∷ leave 5 ∷ []) 6

while_does_its_body : always (setting) (1 ∷ 0 ∷ []) 20 ≡ Ended 5
unfolding leaks run
while_does_its_body = simp layers refl

while_without_its_body : always (setting) (0 ∷ []) 20 ≡ Fault IndetTest 4 2
unfolding leaks run
while_without_its_body = simp layers refl

-- 2 do { 3 x = 1; } while (nondet() 4);  5 return 0;
abbrev doing : Program
doing = main [] 0 1 (DoWhile (choice 4) (put (DataVar 0) 1 3 ∷ []) ∷ leave 5 ∷ []) 6

do_once : always (doing) (0 ∷ []) 20 ≡ Ended 3
unfolding leaks run
do_once = simp layers refl

do_twice : always (doing) (1 ∷ 0 ∷ []) 20 ≡ Ended 5
unfolding leaks run
do_twice = simp layers refl

-- 2 do {} while (nondet());  3 return 0;  (the first step is the test)
do_nothing : always (main [] 0 0 (DoWhile (choice 2) (block [] ∷ []) ∷ leave 3 ∷ []) 4) (0 ∷ []) 20 ≡ Ended 2
unfolding leaks run
do_nothing = simp layers refl

do_nothing_twice : always (main [] 0 0 (DoWhile (choice 2) [] ∷ leave 3 ∷ []) 4) (1 ∷ 0 ∷ []) 20 ≡ Ended 3
unfolding leaks run
do_nothing_twice = simp layers refl

-- do do {} while (0 2); while (nondet() 3);  4 return 0;
abbrev do_do : Program
do_do = main [] 0 0 (DoWhile (choice 3) (DoWhile (literal false 2) [] ∷ []) ∷ leave 4 ∷ []) 5

do_in_do : always (do_do) (1 ∷ 0 ∷ []) 20 ≡ Ended 5
unfolding leaks run
do_in_do = simp layers refl

do_in_do_starts : always (do_do) [] 20 ≡ Starved 2
unfolding leaks run
do_in_do_starts = simp layers refl

-- do while (nondet() 3) {} while (nondet() 4);  5 return 0;
while_in_do : always (main [] 0 0 (DoWhile (choice 4) (While (choice 3) [] ∷ []) ∷ leave 5 ∷ []) 6)
    (0 ∷ 1 ∷ 0 ∷ 0 ∷ []) 20
    ≡ Ended 5
unfolding leaks run
while_in_do = simp layers refl

-- do for (; nondet() 3; 2 x = 1) {} while (nondet() 4);  5 return 0;
for_in_do : always (main [] 0 1
    (DoWhile (choice 4) (For (choice 3) (put (DataVar 0) 1 2 ∷ []) [] ∷ []) ∷ leave 5 ∷ []) 6)
    (1 ∷ 0 ∷ 0 ∷ []) 20 ≡ Ended 5
unfolding leaks run
for_in_do = simp layers refl

-- do if (nondet() 3) 4 x = 1; while (nondet() 5);  6 return 0;
if_in_do :
    always (main [] 0 1 (DoWhile (choice 5) (Branch (choice 3) (put (DataVar 0) 1 4 ∷ []) [] ∷ []) ∷ leave 6 ∷ []) 7)
    (1 ∷ 0 ∷ []) 20 ≡ Ended 4
unfolding leaks run
if_in_do = simp layers refl

-- do { { int x; } 3 } while (nondet() 4);  5 return 0;
close_in_do : always (main [] 0 1 (DoWhile (choice 4) (Group [] [] (0 ∷ []) 3 ∷ []) ∷ leave 5 ∷ []) 6) (0 ∷ []) 20
    ≡ Ended 3
unfolding leaks run
close_in_do = simp layers refl

-- 2 x = 0;  for (; x == 0 3; x = 1 4) {}  5 return 0;
for_one_round :
    always
    (main [] 0 1 (put (DataVar 0) 0 2 ∷ For (has 0 0 3) (put (DataVar 0) 1 4 ∷ []) (block [] ∷ []) ∷ leave 5 ∷ []) 6) []
    20 ≡ Ended 5
unfolding leaks run
for_one_round = simp layers refl

-- 2 x = 1;  for (; x != 2 3; x = 2 4) { assert(x == 1); 5 }  6 return 0;  (the body comes before what is next)
for_body_first :
    always
    (main [] 0 1 (put (DataVar 0) 1 2
    ∷ For (has_not 0 2 3) (put (DataVar 0) 2 4 ∷ []) (Branch (has 0 1 5) [] (error 5 ∷ []) ∷ []) ∷ leave 6 ∷ []) 7) []
    20 ≡ Ended 6
unfolding leaks run
for_body_first = simp layers refl

-- for (int x = 0; x == 0; x = 1) {}, all of it in line 2;  3 if (x == 1) {}  (its Close comes after the loop, in the
-- line of `for`)
abbrev for_declares : Program
for_declares = main [] 0 1
    (Group (put (DataVar 0) 0 2 ∷ For (has 0 0 2) (put (DataVar 0) 1 2 ∷ []) [] ∷ []) [] (0 ∷ []) 2
    ∷ Branch (has 0 1 3) [] [] ∷ []) 4

for_closes : always (for_declares) [] 20 ≡ Fault IndetTest 3 6
unfolding leaks run
for_closes = simp layers refl

for_closes_in_a_step : always (for_declares) [] 5 ≡ StillRunning
unfolding leaks run
for_closes_in_a_step = simp layers refl

-- 2 for (;;) {}
for_ever : always (main [] 0 0 (For (literal true 2) [] [] ∷ []) 3) [] 7 ≡ StillRunning
unfolding leaks run
for_ever = simp layers refl

-- what stands after a `break` or a `continue` in these bodies: one item of each kind, each with an error
abbrev skipped : List Stmt
skipped =
    (error 9 ∷ Group [] [] (1 ∷ []) 9 ∷ Branch (literal true 9) (error 9 ∷ []) (error 9 ∷ [])
    ∷ While (literal true 9) (error 9 ∷ []) ∷ DoWhile (literal true 9) (error 9 ∷ []) ∷ [])

-- `break` goes on after the loop
-- while (1 2) { 3 break; .. }  4 return 0;
break_of_while : always (main [] 0 2 (While (literal true 2) (break 3 ∷ skipped) ∷ leave 4 ∷ []) 5) [] 20 ≡ Ended 3
unfolding leaks run
break_of_while = simp layers refl

-- do { 2 break; .. } while (1 3);  4 return 0;
break_of_do : always (main [] 0 2 (DoWhile (literal true 3) (break 2 ∷ skipped) ∷ leave 4 ∷ []) 5) [] 20 ≡ Ended 2
unfolding leaks run
break_of_do = simp layers refl

-- for (; 1 2; error 3) { 4 break; .. }  5 return 0;  (what is next is not done)
break_of_for : always (main [] 0 2 (For (literal true 2) (error 3 ∷ []) (break 4 ∷ skipped) ∷ leave 5 ∷ []) 6) [] 20
    ≡ Ended 3
unfolding leaks run
break_of_for = simp layers refl

-- `continue` goes on with the test, or with what is next
-- while (nondet() 2) { 3 continue; .. }  4 return 0;
continue_of_while : always (main [] 0 2 (While (choice 2) (continue 3 ∷ skipped) ∷ leave 4 ∷ []) 5) (1 ∷ 0 ∷ []) 20
    ≡ Ended 4
unfolding leaks run
continue_of_while = simp layers refl

-- do { 2 continue; .. } while (nondet() 3);  4 return 0;
continue_of_do : always (main [] 0 2 (DoWhile (choice 3) (continue 2 ∷ skipped) ∷ leave 4 ∷ []) 5) (1 ∷ 0 ∷ []) 20
    ≡ Ended 5
unfolding leaks run
continue_of_do = simp layers refl

-- 2 x = 0;  for (; x == 0 3; x = 1 4) { 5 continue; .. }  6 return 0;
continue_of_for :
    always
    (main [] 0 2 (put (DataVar 0) 0 2 ∷ For (has 0 0 3) (put (DataVar 0) 1 4 ∷ []) (continue 5 ∷ skipped) ∷ leave 6
    ∷ []) 7) [] 20 ≡ Ended 6
unfolding leaks run
continue_of_for = simp layers refl

-- they are of the innermost loop
-- while (nondet() 2) { while (1 3) { 4 break; }  5 x = 1; }  6 return 0;
break_of_the_inner_loop :
    always
    (main [] 0 1 (While (choice 2) (While (literal true 3) (break 4 ∷ []) ∷ put (DataVar 0) 1 5 ∷ []) ∷ leave 6 ∷ []) 7)
    (1 ∷ 0 ∷ []) 20 ≡ Ended 6
unfolding leaks run
break_of_the_inner_loop = simp layers refl

-- while (nondet() 2) { do { 3 break; } while (1 4);  5 x = 1; }  6 return 0;
break_of_the_inner_do : always
    (main [] 0 1 (While (choice 2) (DoWhile (literal true 4) (break 3 ∷ []) ∷ put (DataVar 0) 1 5 ∷ []) ∷ leave 6 ∷ [])
    7) (1 ∷ 0 ∷ []) 20 ≡ Ended 5
unfolding leaks run
break_of_the_inner_do = simp layers refl

-- while (nondet() 2) { do { 3 continue; } while (0 4);  5 x = 1; }  6 return 0;
continue_of_the_inner_loop :
    always
    (main [] 0 1 (While (choice 2) (DoWhile (literal false 4) (continue 3 ∷ []) ∷ put (DataVar 0) 1 5 ∷ []) ∷ leave 6
    ∷ []) 7) (1 ∷ 0 ∷ []) 20 ≡ Ended 6
unfolding leaks run
continue_of_the_inner_loop = simp layers refl

-- 2 while (1) { 3 if (nondet()) 4 break; }  5 return 0;
break_in_a_branch :
    always (main [] 0 0 (While (literal true 2) (Branch (choice 3) (break 4 ∷ []) [] ∷ []) ∷ leave 5 ∷ []) 6)
    (0 ∷ 1 ∷ [])
    20 ≡ Ended 6
unfolding leaks run
break_in_a_branch = simp layers refl

-- a block, also an empty one, is no step; the end of a program is none
nothing_to_do : always (main [] 0 0 [] 2) [] 20 ≡ Ended 0
unfolding leaks run
nothing_to_do = simp layers refl

nothing_at_once : always (main [] 0 0 (block (block [] ∷ []) ∷ []) 2) [] 0 ≡ Ended 0
unfolding leaks run
nothing_at_once = simp layers refl
