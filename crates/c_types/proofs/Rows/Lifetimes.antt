-- Rows on leaks, and on variables that die. p, q, r are the variables 0, 1, 2.
use Rattle.std.proofs.Common.{◌≡◌, true, Some, [], ◌∷◌, refl}
use Rattle.fore_base.specs.declared.fault.Fault.TheVariants.{NullDeref, UninitDeref, Leak, Assertion, IndetTest}
use Rattle.fore_base.specs.Heap.{leaks}
use Rattle.c_types.specs.declared.program.DataPath.TheVariants.{Var as DataVar}
use Rattle.c_types.specs.declared.program.Act.TheVariants.{Return}
use Rattle.c_types.specs.declared.program.Cond.{Cond}
use Rattle.c_types.specs.declared.program.Stmt.TheVariants.{Do, Branch, While, DoWhile, Group}
use Rattle.c_types.specs.declared.outcome.Outcome.TheVariants.{Ended, Fault, StillRunning}
use Rattle.c_types.specs.Program.{Program}
use Rattle.c_types.specs.Runs.{run}
use Rattle.c_types.proofs.Layers.{layers}
use Rattle.c_types.proofs.Rows.Forms.{always, nodes, items, var, arrow, arrows, key, choice, literal, is_null, has}
use Rattle.c_types.proofs.Rows.Forms.{null, new}
use Rattle.c_types.proofs.Rows.Forms.{copy, free, put, error, halt, leave, break, continue, block, main, main_with}

-- Leaks of a step

-- 2 p = malloc();  3 p = NULL;
overwritten : always (main nodes 1 0 (new (var 0) 2 ∷ null (var 0) 3 ∷ []) 9) [] 20 ≡ Fault Leak 3 2
unfolding leaks run
overwritten = simp layers refl

-- 2 p = malloc();  3 p = malloc();
overwritten_by_new : always (main nodes 1 0 (new (var 0) 2 ∷ new (var 0) 3 ∷ []) 9) [] 20 ≡ Fault Leak 3 2
unfolding leaks run
overwritten_by_new = simp layers refl

-- 2 p = malloc();  3 q = p;  4 p = NULL;  5 free(q);  6 return 0;
still_named :
    always (main nodes 2 0 (new (var 0) 2 ∷ copy (var 1) (var 0) 3 ∷ null (var 0) 4 ∷ free (var 1) 5 ∷ leave 6
    ∷ []) 9) []
    20 ≡ Ended 5
unfolding leaks run
still_named = simp layers refl

-- 2 p = malloc();  3 p->next = malloc();  4 p->next = NULL;
field_overwritten : always (main nodes 1 0 (new (var 0) 2 ∷ new (arrow 0 0) 3 ∷ null (arrow 0 0) 4 ∷ []) 9) [] 20
    ≡ Fault Leak 4 3
unfolding leaks run
field_overwritten = simp layers refl

-- 2 p = malloc();  3 p->next = malloc();  4 free(p);
freed_head : always (main nodes 1 0 (new (var 0) 2 ∷ new (arrow 0 0) 3 ∷ free (var 0) 4 ∷ []) 9) [] 20 ≡ Fault Leak 4 3
unfolding leaks run
freed_head = simp layers refl

-- 2 p = malloc();  3 p->next = p;  4 p = NULL;  (a cell that only it names)
ring : always (main nodes 1 0 (new (var 0) 2 ∷ copy (arrow 0 0) (var 0) 3 ∷ null (var 0) 4 ∷ []) 9) [] 20
    ≡ Fault Leak 4 3
unfolding leaks run
ring = simp layers refl

-- 2 p = malloc();  3 p->next = malloc();  4 p->next->next = malloc();  5 exit(0);  (reached over two fields)
chain : always (main nodes 1 0 (new (var 0) 2 ∷ new (arrow 0 0) 3 ∷ new (arrows 0 0 0) 4 ∷ halt 5 ∷ []) 9) [] 20
    ≡ Ended 4
unfolding leaks run
chain = simp layers refl

-- 2 p = NULL;  3 q = malloc();  4 q = p->next;  (a leak counts last)
fault_before_leak : always (main nodes 2 0 (null (var 0) 2 ∷ new (var 1) 3 ∷ copy (var 1) (arrow 0 0) 4 ∷ []) 9) [] 20
    ≡ Fault NullDeref 4 3
unfolding leaks run
fault_before_leak = simp layers refl

-- Blocks

-- { struct node *p; 3 p = malloc(); } 4
block_leaks : always (main nodes 1 0 (Group (new (var 0) 3 ∷ []) (0 ∷ []) [] 4 ∷ leave 5 ∷ []) 6) [] 20 ≡ Fault Leak 4 2
unfolding leaks run
block_leaks = simp layers refl

-- a block that declares nothing has no Close: { 3 p = malloc(); }  4 free(p);  5 return 0;
block_without_variables : always (main nodes 1 0 (block (new (var 0) 3 ∷ []) ∷ free (var 0) 4 ∷ leave 5 ∷ []) 6) [] 20
    ≡ Ended 3
unfolding leaks run
block_without_variables = simp layers refl

-- { struct node *p; 3 p = NULL; } 4  5 p->next = NULL;  (p in the text is another variable; here the dead one is looked
-- at)
dead_is_uninit : always (main nodes 1 0 (Group (null (var 0) 3 ∷ []) (0 ∷ []) [] 4 ∷ null (arrow 0 0) 5 ∷ []) 6) [] 20
    ≡ Fault UninitDeref 5 3
unfolding leaks run
dead_is_uninit = simp layers refl

-- of two variables only the one dies: 2 p = NULL;  { struct node *q; 3 q = NULL; } 4  if (p == NULL 5) 6 exit(0);
other_lives :
    always
    (main nodes 2 0 (null (var 0) 2 ∷ Group (null (var 1) 3 ∷ []) (1 ∷ []) [] 4 ∷ Branch (is_null 0 5) (halt 6 ∷ []) []
    ∷ []) 7) [] 20 ≡ Ended 5
unfolding leaks run
other_lives = simp layers refl

-- a block of data alone has a Close, and they die: { int x; 2 x = 1; } 3  if (x == 1 4) ;
data_die : always (main [] 0 1 (Group (put (DataVar 0) 1 2 ∷ []) [] (0 ∷ []) 3 ∷ Branch (has 0 1 4) [] [] ∷ []) 5) [] 20
    ≡ Fault IndetTest 4 3
unfolding leaks run
data_die = simp layers refl

-- { struct node *p; int x; 2 x = 1; } 3  if (x == 1 4) ;
data_die_beside_pointers :
    always (main nodes 1 1 (Group (put (DataVar 0) 1 2 ∷ []) (0 ∷ []) (0 ∷ []) 3 ∷ Branch (has 0 1 4) [] [] ∷ []) 5)
    [] 20
    ≡ Fault IndetTest 4 3
unfolding leaks run
data_die_beside_pointers = simp layers refl

-- and no others: 2 x = 1;  { int y; 3 y = 2; } 4  if (x == 1 5) 6 exit(0);
other_datum_lives :
    always
    (main [] 0 2 (put (DataVar 0) 1 2 ∷ Group (put (DataVar 1) 2 3 ∷ []) [] (1 ∷ []) 4
    ∷ Branch (has 0 1 5) (halt 6 ∷ []) [] ∷ []) 7) [] 20 ≡ Ended 5
unfolding leaks run
other_datum_lives = simp layers refl

-- the end of main's block is a step with a leak test: 2 p = malloc(); } 3
end_of_main_leaks : always (main_with nodes 1 0 (new (var 0) 2 ∷ []) (0 ∷ []) [] 3) [] 20 ≡ Fault Leak 3 2
unfolding leaks run
end_of_main_leaks = simp layers refl

end_of_main : always (main_with nodes 1 0 (null (var 0) 2 ∷ []) (0 ∷ []) [] 3) [] 2 ≡ Ended 2
unfolding leaks run
end_of_main = simp layers refl

before_the_end_of_main : always (main_with nodes 1 0 (null (var 0) 2 ∷ []) (0 ∷ []) [] 3) [] 1 ≡ StillRunning
unfolding leaks run
before_the_end_of_main = simp layers refl

-- `break`

-- while (1 2) { struct node *p; 3 p = malloc(); 4 break; } 5
break_leaks :
    always
    (main nodes 1 0 (While (literal true 2) (Group (new (var 0) 3 ∷ break 4 ∷ []) (0 ∷ []) [] 5 ∷ []) ∷ leave 6 ∷ []) 7)
    [] 20 ≡ Fault Leak 4 3
unfolding leaks run
break_leaks = simp layers refl

-- struct node *p; while (1 2) { 3 p = malloc(); 4 break; }  5 free(p);  6 return 0;
break_keeps_outer :
    always
    (main_with nodes 1 0 (While (literal true 2) (block (new (var 0) 3 ∷ break 4 ∷ []) ∷ []) ∷ free (var 0) 5 ∷ leave 6
    ∷ []) (0 ∷ []) [] 7) [] 20 ≡ Ended 5
unfolding leaks run
break_keeps_outer = simp layers refl

-- while (1 2) { struct node *p; 3 p = NULL; { struct node *q; 4 q = NULL; 5 break; } 6 } 7  if (c 8) ;  9 return 0;
abbrev two_blocks : Cond → Program
two_blocks c = main nodes 3 0
    (null (var 2) 1 ∷ While (literal true 2)
    (Group (null (var 0) 3 ∷ Group (null (var 1) 4 ∷ break 5 ∷ []) (1 ∷ []) [] 6 ∷ []) (0 ∷ []) [] 7 ∷ [])
    ∷ Branch c [] [] ∷ leave 9 ∷ []) 10

break_kills_the_outer_block : always (two_blocks (is_null 0 8)) [] 20 ≡ Fault IndetTest 8 6
unfolding leaks run
break_kills_the_outer_block = simp layers refl

break_kills_the_inner_block : always (two_blocks (is_null 1 8)) [] 20 ≡ Fault IndetTest 8 6
unfolding leaks run
break_kills_the_inner_block = simp layers refl

break_keeps_the_others : always (two_blocks (is_null 2 8)) [] 20 ≡ Ended 7
unfolding leaks run
break_keeps_the_others = simp layers refl

-- while (1 2) { int x; 3 x = 1; 4 break; } 5  if (x == 1 6) ;
break_kills_data :
    always
    (main [] 0 1 (While (literal true 2) (Group (put (DataVar 0) 1 3 ∷ break 4 ∷ []) [] (0 ∷ []) 5 ∷ [])
    ∷ Branch (has 0 1 6) [] [] ∷ []) 7) [] 20 ≡ Fault IndetTest 6 4
unfolding leaks run
break_kills_data = simp layers refl

-- of a `do`: do { struct node *p; 2 p = malloc(); 3 break; } 4 while (1 5);
break_of_do_leaks :
    always
    (main nodes 1 0 (DoWhile (literal true 5) (Group (new (var 0) 2 ∷ break 3 ∷ []) (0 ∷ []) [] 4 ∷ []) ∷ leave 6 ∷ [])
    7) [] 20 ≡ Fault Leak 3 2
unfolding leaks run
break_of_do_leaks = simp layers refl

-- variables of blocks round the loop live on: { struct node *p; 2 p = NULL; while (1 3) { 4 break; }  if (p == NULL 5)
-- 6 exit(0); } 7
break_keeps_the_block_round_it :
    always
    (main nodes 1 0
    (Group (null (var 0) 2 ∷ While (literal true 3) (break 4 ∷ []) ∷ Branch (is_null 0 5) (halt 6 ∷ []) [] ∷ [])
    (0 ∷ []) [] 7 ∷ []) 8) [] 20 ≡ Ended 5
unfolding leaks run
break_keeps_the_block_round_it = simp layers refl

-- and so do data: { int x; 2 x = 1; do { 3 break; } while (1 4);  if (x == 1 5) 6 exit(0); } 7
break_keeps_data_round_it :
    always
    (main [] 0 1
    (Group (put (DataVar 0) 1 2 ∷ DoWhile (literal true 4) (break 3 ∷ []) ∷ Branch (has 0 1 5) (halt 6 ∷ []) [] ∷ []) []
    (0 ∷ []) 7 ∷ []) 8) [] 20 ≡ Ended 4
unfolding leaks run
break_keeps_data_round_it = simp layers refl

-- the same with the loops exchanged: { struct node *p; 2 p = NULL; do { 3 break; } while (1 4);  if (p == NULL 5) 6
-- exit(0); } 7
break_of_do_keeps_the_block_round_it :
    always
    (main nodes 1 0
    (Group (null (var 0) 2 ∷ DoWhile (literal true 4) (break 3 ∷ []) ∷ Branch (is_null 0 5) (halt 6 ∷ []) [] ∷ [])
    (0 ∷ []) [] 7 ∷ []) 8) [] 20 ≡ Ended 4
unfolding leaks run
break_of_do_keeps_the_block_round_it = simp layers refl

-- { int x; 2 x = 1; while (1 3) { 4 break; }  if (x == 1 5) 6 exit(0); } 7
break_of_while_keeps_data_round_it :
    always
    (main [] 0 1
    (Group (put (DataVar 0) 1 2 ∷ While (literal true 3) (break 4 ∷ []) ∷ Branch (has 0 1 5) (halt 6 ∷ []) [] ∷ []) []
    (0 ∷ []) 7 ∷ []) 8) [] 20 ≡ Ended 5
unfolding leaks run
break_of_while_keeps_data_round_it = simp layers refl

-- closes in what is left of the body count, also behind other items
break_kills_behind_items :
    always
    (main nodes 2 0
    (null (var 0) 1 ∷ While (literal true 2)
    (break 3 ∷ error 9 ∷ Branch (literal true 9) [] [] ∷ While (literal true 9) [] ∷ DoWhile (literal true 9) []
    ∷ Group [] (0 ∷ []) [] 9 ∷ []) ∷ Branch (is_null 0 4) [] [] ∷ []) 5) [] 20 ≡ Fault IndetTest 4 4
unfolding leaks run
break_kills_behind_items = simp layers refl

break_kills_data_behind_items :
    always
    (main [] 0 1 (put (DataVar 0) 1 1
    ∷ While (literal true 2)
    (break 3 ∷ error 9 ∷ Branch (literal true 9) [] [] ∷ While (literal true 9) [] ∷ DoWhile (literal true 9) []
    ∷ Group [] [] (0 ∷ []) 9 ∷ []) ∷ Branch (has 0 1 4) [] [] ∷ []) 5) [] 20 ≡ Fault IndetTest 4 4
unfolding leaks run
break_kills_data_behind_items = simp layers refl

-- `continue`

-- while (1 2) { struct node *p; 3 p = malloc(); 4 continue; } 5
continue_leaks :
    always
    (main nodes 1 0 (While (literal true 2) (Group (new (var 0) 3 ∷ continue 4 ∷ []) (0 ∷ []) [] 5 ∷ []) ∷ leave 6 ∷ [])
    7) [] 20 ≡ Fault Leak 4 3
unfolding leaks run
continue_leaks = simp layers refl

-- while (nondet() 2) { int x; 3 x = 1; 4 continue; } 5  if (x == 1 6) ;
continue_kills_data : always
    (main [] 0 1 (While (choice 2) (Group (put (DataVar 0) 1 3 ∷ continue 4 ∷ []) [] (0 ∷ []) 5 ∷ [])
    ∷ Branch (has 0 1 6) [] [] ∷ []) 7) (1 ∷ 0 ∷ []) 20 ≡ Fault IndetTest 6 5
unfolding leaks run
continue_kills_data = simp layers refl

-- a variable of a loop's block is not set in the next round
-- while (1 2) { int x; if (nondet() 3) 3 x = 1; else if (x == 1 4) ; } 5
not_set_again :
    always
    (main [] 0 1
    (While (literal true 2)
    (Group (Branch (choice 3) (put (DataVar 0) 1 3 ∷ []) (Branch (has 0 1 4) [] [] ∷ []) ∷ []) [] (0 ∷ []) 5 ∷ []) ∷ [])
    6) (1 ∷ 0 ∷ []) 20 ≡ Fault IndetTest 4 7
unfolding leaks run
not_set_again = simp layers refl

-- `return`, `exit` and errors

-- 2 p = malloc();  3 return 0;
return_leaks : always (main nodes 1 0 (new (var 0) 2 ∷ leave 3 ∷ []) 9) [] 20 ≡ Fault Leak 3 2
unfolding leaks run
return_leaks = simp layers refl

-- 2 return 0;  3 error();
return_ends : always (main nodes 1 0 (leave 2 ∷ error 3 ∷ []) 9) [] 20 ≡ Ended 1
unfolding leaks run
return_ends = simp layers refl

return_ends_in_time : always (main nodes 1 0 (leave 2 ∷ error 3 ∷ []) 9) [] 1 ≡ Ended 1
unfolding leaks run
return_ends_in_time = simp layers refl

-- while (1 2) { 3 return 0; }
return_ends_loops : always (main nodes 1 0 (While (literal true 2) (leave 3 ∷ []) ∷ error 4 ∷ []) 9) [] 20 ≡ Ended 2
unfolding leaks run
return_ends_loops = simp layers refl

-- 2 p = NULL;  3 return p->key;
return_looks : always (main items 1 0 (null (var 0) 2 ∷ Do (Return (Some (key 0 0))) 3 ∷ []) 9) [] 20
    ≡ Fault NullDeref 3 2
unfolding leaks run
return_looks = simp layers refl

-- 2 p = malloc();  3 return p->key;  (a datum that was not set may be returned; the cell is lost)
return_looks_then_leaks : always (main items 1 0 (new (var 0) 2 ∷ Do (Return (Some (key 0 0))) 3 ∷ []) 9) [] 20
    ≡ Fault Leak 3 2
unfolding leaks run
return_looks_then_leaks = simp layers refl

-- 2 return x;
return_undefined : always (main [] 0 1 (Do (Return (Some (DataVar 0))) 2 ∷ []) 9) [] 20 ≡ Ended 1
unfolding leaks run
return_undefined = simp layers refl

-- 2 p = malloc();  3 exit(0);  4 error();
exit_is_no_leak : always (main nodes 1 0 (new (var 0) 2 ∷ halt 3 ∷ error 4 ∷ []) 9) [] 20 ≡ Ended 2
unfolding leaks run
exit_is_no_leak = simp layers refl

-- 2 p = malloc();  3 error();
error_is_no_leak : always (main nodes 1 0 (new (var 0) 2 ∷ error 3 ∷ []) 9) [] 20 ≡ Fault Assertion 3 2
unfolding leaks run
error_is_no_leak = simp layers refl
