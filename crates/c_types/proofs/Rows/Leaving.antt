-- Rows on what `break`, `continue` and `return` pass: calls that are still to come, branches and loops. A program is its
-- C text with the number of each line.
use Rattle.std.proofs.Common.{◌≡◌, ℕ, true, Some, None, List, [], ◌∷◌, refl}
use Rattle.fore_base.specs.declared.fault.Fault.TheVariants.{Leak, IndetTest}
use Rattle.fore_base.specs.Heap.{leaks}
use Rattle.c_types.specs.declared.program.DataPath.TheVariants.{Var as DataVar}
use Rattle.c_types.specs.declared.program.VarRef.TheVariants.{Ptr as PtrVar, Data as DatumVar}
use Rattle.c_types.specs.declared.program.Dest.TheVariants.{Data as DataDest}
use Rattle.c_types.specs.declared.program.Func.{Func}
use Rattle.c_types.specs.declared.program.Stmt.{Stmt}
use Rattle.c_types.specs.declared.program.Stmt.TheVariants.{Branch, While, DoWhile, Group, Call}
use Rattle.c_types.specs.declared.outcome.Outcome.TheVariants.{Ended, Fault}
use Rattle.c_types.specs.Program.{Program}
use Rattle.c_types.specs.Control.{Items, Done, Close, If, Loop, Again, DoLoop, DoAgain, Enter, Leave, Exit, Ask}
use Rattle.c_types.specs.Control.{closed_ptrs, closed_datums, after_again, from_again, from_exit}
use Rattle.c_types.specs.declared.program.Atom.TheVariants.{Choice as ChoiceAtom}
use Rattle.c_types.specs.Runs.{run}
use Rattle.c_types.proofs.Layers.{layers}
use Rattle.c_types.proofs.Rows.Forms.{always, nodes, var, choice, literal, has, new, put, error, halt, leave, break}
use Rattle.c_types.proofs.Rows.Forms.{continue, with_funcs, func, give_known, give_datum, back, back_none}

-- `break` and `continue` before a call

-- 1 void h(void) { return; }  2 void g(void) { h();  3 return; }
abbrev g_and_h : List Func
g_and_h =
    func [] [] None (Call 1 [] None 2 ∷ back_none 0 3 ∷ []) [] [] 3
    ∷ func [] [] None (back_none 1 1 ∷ []) [] [] 1 ∷ []

-- while (1 4) { struct node *x;  5 x = malloc();  if (1 6) 6 break;  7 g(); } 8  9 return 0;
break_before_a_call_leaks :
    always
    (with_funcs nodes 1 0 g_and_h
    (While (literal true 4)
    (Group (new (var 0) 5 ∷ Branch (literal true 6) (break 6 ∷ []) [] ∷ Call 0 [] None 7 ∷ []) (0 ∷ []) [] 8 ∷ [])
    ∷ leave 9 ∷ []) [] [] 10) [] 20 ≡ Fault Leak 6 4
unfolding leaks run
break_before_a_call_leaks = simp layers refl

-- while (1 4) { int x;  5 x = 1;  6 break;  7 g(); } 8  if (x == 1 9) ;
break_before_a_call_kills_data :
    always
    (with_funcs [] 0 1 g_and_h
    (While (literal true 4) (Group (put (DataVar 0) 1 5 ∷ break 6 ∷ Call 0 [] None 7 ∷ []) [] (0 ∷ []) 8 ∷ [])
    ∷ Branch (has 0 1 9) [] [] ∷ []) [] [] 10) [] 20 ≡ Fault IndetTest 9 4
unfolding leaks run
break_before_a_call_kills_data = simp layers refl

-- while (nondet() 4) { struct node *x;  5 x = malloc();  6 continue;  7 g(); } 8  9 return 0;
continue_before_a_call_leaks :
    always
    (with_funcs nodes 1 0 g_and_h
    (While (choice 4) (Group (new (var 0) 5 ∷ continue 6 ∷ Call 0 [] None 7 ∷ []) (0 ∷ []) [] 8 ∷ [])
    ∷ leave 9 ∷ []) [] [] 10) (1 ∷ 0 ∷ []) 20 ≡ Fault Leak 6 3
unfolding leaks run
continue_before_a_call_leaks = simp layers refl

-- while (1 4) { 5 break;  6 g(); }  7 return 0;
break_before_a_call :
    always
    (with_funcs [] 0 0 g_and_h (While (literal true 4) (break 5 ∷ Call 0 [] None 6 ∷ []) ∷ leave 7 ∷ []) [] [] 8) [] 20
    ≡ Ended 3
unfolding leaks run
break_before_a_call = simp layers refl

-- do { 4 break;  5 g(); } while (1 6);  7 return 0;
break_of_do_before_a_call :
    always
    (with_funcs [] 0 0 g_and_h (DoWhile (literal true 6) (break 4 ∷ Call 0 [] None 5 ∷ []) ∷ leave 7 ∷ []) [] [] 8) [] 20
    ≡ Ended 2
unfolding leaks run
break_of_do_before_a_call = simp layers refl

-- while (nondet() 4) { if (nondet() 5) 5 continue;  6 g(); }  7 return 0;
abbrev continuing : Program
continuing =
    with_funcs [] 0 0 g_and_h
    (While (choice 4) (Branch (choice 5) (continue 5 ∷ []) [] ∷ Call 0 [] None 6 ∷ []) ∷ leave 7 ∷ []) [] [] 8

-- test, test, continue, test, return
continue_before_a_call : always continuing (1 ∷ 1 ∷ 0 ∷ []) 20 ≡ Ended 5
unfolding leaks run
continue_before_a_call = simp layers refl

-- test, test; Enter g, Enter h, Leave h, Exit h, Leave g, Exit g; test, return
no_continue_before_a_call : always continuing (1 ∷ 0 ∷ 0 ∷ []) 20 ≡ Ended 10
unfolding leaks run
no_continue_before_a_call = simp layers refl

-- do { 4 continue;  5 g(); } while (nondet() 6);  7 return 0;
continue_of_do_before_a_call :
    always
    (with_funcs [] 0 0 g_and_h (DoWhile (choice 6) (continue 4 ∷ Call 0 [] None 5 ∷ []) ∷ leave 7 ∷ []) [] [] 8)
    (1 ∷ 0 ∷ []) 20 ≡ Ended 5
unfolding leaks run
continue_of_do_before_a_call = simp layers refl

-- Which variables die there: those of the call that goes on, and none of a call that is still to come. What is left of
-- while (nondet()) { struct node *p; int x; { struct node *q; int y; break;  g(); } 2 } 3
-- where g is void g(int a) { struct node *r; int z; return; } 1 and calls h before, void h(void) { struct node *s; } 1
-- (p, q, r, s are the pointers 0 to 3; x, y, z, a the data 0 to 3)
abbrev round_end : Items
round_end = Again (Ask ChoiceAtom 1) Done Done (Close (4 ∷ []) (4 ∷ []) 4 Done)

abbrev with_a_call : Items
with_a_call =
    Enter (DatumVar 3 ∷ []) (give_known 1 ∷ []) 1
    (Enter [] [] 1 (Close (3 ∷ []) [] 1 (Exit None [] None 1
    (Leave None (PtrVar 2 ∷ DatumVar 2 ∷ []) None 1
    (Close (2 ∷ []) (2 ∷ []) 1 (Exit None (DatumVar 3 ∷ []) None 1
    (Close (1 ∷ []) (1 ∷ []) 2 (Close (0 ∷ []) (0 ∷ []) 3 round_end))))))))

own_pointers_die : closed_ptrs with_a_call ≡ 0 ∷ 1 ∷ []
own_pointers_die = refl

own_data_die : closed_datums with_a_call ≡ 0 ∷ 1 ∷ []
own_data_die = refl

-- the same of a `do`, and between two calls
pointers_between_calls :
    closed_ptrs
    (Close (5 ∷ []) [] 2 (Enter [] [] 3 (Close (1 ∷ []) [] 3 (Exit None [] None 3 (Close (2 ∷ []) [] 4
    (Enter [] [] 5 (Exit None [] None 5 (DoAgain (Ask ChoiceAtom 6) Done (Close (7 ∷ []) [] 7 Done)))))))))
    ≡ 2 ∷ 5 ∷ []
pointers_between_calls = refl

data_between_calls :
    closed_datums
    (Close [] (5 ∷ []) 2 (Enter [] [] 3 (Close [] (1 ∷ []) 3 (Exit None [] None 3 (Close [] (2 ∷ []) 4
    (Enter [] [] 5 (Exit None [] None 5 (DoAgain (Ask ChoiceAtom 6) Done (Close [] (7 ∷ []) 7 Done)))))))))
    ≡ 2 ∷ 5 ∷ []
data_between_calls = refl

-- the variables of a caller are no variables of the call
pointers_of_a_caller : closed_ptrs (Close (1 ∷ []) [] 2 (Exit None [] None 3 (Close (0 ∷ []) [] 4 Done))) ≡ 1 ∷ []
pointers_of_a_caller = refl

data_of_a_caller : closed_datums (Close [] (1 ∷ []) 2 (Exit None [] None 3 (Close [] (0 ∷ []) 4 Done))) ≡ 1 ∷ []
data_of_a_caller = refl

-- where the round ends
after_the_round : after_again with_a_call ≡ Close (4 ∷ []) (4 ∷ []) 4 Done
after_the_round = refl

next_round : from_again with_a_call ≡ round_end
next_round = refl

-- `return` before a branch, a loop, and in a loop

-- 8 b = f(k);  9 if (b == v) 10 exit(0); else 11 error();  where f is a function of one argument (0 is its result, 1 its
-- parameter, 2 is b)
abbrev asking : List Stmt → ℕ → ℕ → Program
asking body k v =
    with_funcs [] 0 3 (func (DatumVar 1 ∷ []) [] (Some (DatumVar 0)) body [] [] 7 ∷ [])
    (Call 0 (give_known k ∷ []) (Some (DataDest (DataVar 2))) 8 ∷ Branch (has 2 v 9) (halt 10 ∷ []) (error 11 ∷ []) ∷ [])
    [] (2 ∷ []) 12

-- int f(int a) { 2 if (a == 1) 3 return 7;  4 if (a == 2) 5 return 6;  6 return 0; } 7
abbrev branches : List Stmt
branches =
    Branch (has 1 1 2) (back 0 (give_known 7) 3 ∷ []) [] ∷ Branch (has 1 2 4) (back 0 (give_known 6) 5 ∷ []) []
    ∷ back 0 (give_known 0) 6 ∷ []

-- Enter, test, Leave, Exit, test, exit
return_before_a_branch : always (asking branches 1 7) [] 20 ≡ Ended 6
unfolding leaks run
return_before_a_branch = simp layers refl

return_in_the_second_branch : always (asking branches 2 6) [] 20 ≡ Ended 7
unfolding leaks run
return_in_the_second_branch = simp layers refl

return_after_the_branches : always (asking branches 3 0) [] 20 ≡ Ended 7
unfolding leaks run
return_after_the_branches = simp layers refl

-- int f(int a) { if (a == 1 2) 2 return 7;  while (nondet() 3) 3 a = 2;  do 4 a = 3; while (nondet() 5);  6 return a; } 7
abbrev loops : List Stmt
loops =
    Branch (has 1 1 2) (back 0 (give_known 7) 2 ∷ []) [] ∷ While (choice 3) (put (DataVar 1) 2 3 ∷ [])
    ∷ DoWhile (choice 5) (put (DataVar 1) 3 4 ∷ []) ∷ back 0 (give_datum (DataVar 1)) 6 ∷ []

return_before_loops : always (asking loops 1 7) [] 20 ≡ Ended 6
unfolding leaks run
return_before_loops = simp layers refl

-- Enter, test, test, a = 3, test, Leave, Exit, test, exit
return_after_loops : always (asking loops 0 3) (0 ∷ 0 ∷ []) 20 ≡ Ended 9
unfolding leaks run
return_after_loops = simp layers refl

-- int f(int a) { if (a == 1 2) 2 return 7;  while (nondet() 3) 3 a = 2;  4 return a; } 7
return_before_a_while :
    always
    (asking
    (Branch (has 1 1 2) (back 0 (give_known 7) 2 ∷ []) [] ∷ While (choice 3) (put (DataVar 1) 2 3 ∷ [])
    ∷ back 0 (give_datum (DataVar 1)) 4 ∷ []) 1 7) [] 20 ≡ Ended 6
unfolding leaks run
return_before_a_while = simp layers refl

-- int f(int a) { if (a == 1 2) 2 return 7;  do 3 a = 3; while (nondet() 4);  5 return a; } 7
return_before_a_do :
    always
    (asking
    (Branch (has 1 1 2) (back 0 (give_known 7) 2 ∷ []) [] ∷ DoWhile (choice 4) (put (DataVar 1) 3 3 ∷ [])
    ∷ back 0 (give_datum (DataVar 1)) 5 ∷ []) 1 7) [] 20 ≡ Ended 6
unfolding leaks run
return_before_a_do = simp layers refl

-- int f(int a) { do { 2 return 7; } while (1 3); } 7
return_in_a_do : always (asking (DoWhile (literal true 3) (back 0 (give_known 7) 2 ∷ []) ∷ []) 0 7) [] 20 ≡ Ended 5
unfolding leaks run
return_in_a_do = simp layers refl

-- int f(int a) { while (1 2) { 3 return 7; } } 7
return_in_a_while : always (asking (While (literal true 2) (back 0 (give_known 7) 3 ∷ []) ∷ []) 0 7) [] 20 ≡ Ended 6
unfolding leaks run
return_in_a_while = simp layers refl

-- Where the call ends that a `return` leaves: behind branches, loops, rounds that have begun, and other calls
abbrev call_end : Items
call_end = Exit None [] None 9 (Close (0 ∷ []) [] 10 Done)

end_of_the_call :
    from_exit
    (If (Ask ChoiceAtom 1) Done Done (Loop (Ask ChoiceAtom 2) Done Done (Again (Ask ChoiceAtom 3) Done Done
    (DoLoop (Ask ChoiceAtom 4) Done (DoAgain (Ask ChoiceAtom 5) Done (Close [] [] 6 (Leave None [] None 7
    (Enter [] [] 8 (Enter [] [] 8 (Exit None [] None 8 (Exit None [] None 8 call_end)))))))))))
    ≡ call_end
end_of_the_call = refl
