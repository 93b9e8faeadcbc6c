-- Rows on conditions: `!`, `&&` and `||` go from the left and stop early; each atom is one step, in its own line.
use Rattle.std.proofs.Common.{◌≡◌, true, false, [], ◌∷◌, refl}
use Rattle.fore_base.specs.declared.fault.Fault.TheVariants.{NullDeref, Assertion}
use Rattle.fore_base.specs.Heap.{leaks}
use Rattle.c_types.specs.declared.program.DataPath.TheVariants.{Var as DataVar}
use Rattle.c_types.specs.declared.program.PtrOp.TheVariants.{Path as OpPath, Null as OpNull}
use Rattle.c_types.specs.declared.program.Cond.{Cond}
use Rattle.c_types.specs.declared.program.Cond.TheVariants.{Not, All, Any}
use Rattle.c_types.specs.declared.program.Stmt.TheVariants.{Branch}
use Rattle.c_types.specs.declared.outcome.Outcome.TheVariants.{Ended, Fault, Starved}
use Rattle.c_types.specs.Program.{Program}
use Rattle.c_types.specs.Runs.{run}
use Rattle.c_types.proofs.Layers.{layers}
use Rattle.c_types.proofs.Rows.Forms.{always, nodes, var, arrow, choice, literal, compare, is_set, has, null, put}
use Rattle.c_types.proofs.Rows.Forms.{error, leave}
use Rattle.c_types.proofs.Rows.Forms.{main}

-- 2 .. 7 if (c) 8 error();  else 9 return 0;
abbrev if_so : Cond → Program
if_so c = main nodes 1 0 (Branch c (error 8 ∷ []) (leave 9 ∷ []) ∷ []) 10

choice_of_one : always (if_so (choice 2)) (1 ∷ []) 20 ≡ Fault Assertion 8 2
unfolding leaks run
choice_of_one = simp layers refl

choice_of_zero : always (if_so (choice 2)) (0 ∷ []) 20 ≡ Ended 2
unfolding leaks run
choice_of_zero = simp layers refl

choice_missing : always (if_so (choice 2)) [] 20 ≡ Starved 1
unfolding leaks run
choice_missing = simp layers refl

literal_true : always (if_so (literal true 2)) [] 20 ≡ Fault Assertion 8 2
unfolding leaks run
literal_true = simp layers refl

literal_false : always (if_so (literal false 2)) [] 20 ≡ Ended 2
unfolding leaks run
literal_false = simp layers refl

not_one : always (if_so (Not (choice 2))) (1 ∷ []) 20 ≡ Ended 2
unfolding leaks run
not_one = simp layers refl

not_zero : always (if_so (Not (choice 2))) (0 ∷ []) 20 ≡ Fault Assertion 8 2
unfolding leaks run
not_zero = simp layers refl

not_not : always (if_so (Not (Not (choice 2)))) (1 ∷ []) 20 ≡ Fault Assertion 8 2
unfolding leaks run
not_not = simp layers refl

-- a && b
abbrev both : Cond
both = All (choice 2 ∷ choice 3 ∷ [])

and_no : always (if_so both) (0 ∷ []) 20 ≡ Ended 2
unfolding leaks run
and_no = simp layers refl

and_yes_no : always (if_so both) (1 ∷ 0 ∷ []) 20 ≡ Ended 3
unfolding leaks run
and_yes_no = simp layers refl

and_yes_yes : always (if_so both) (1 ∷ 1 ∷ []) 20 ≡ Fault Assertion 8 3
unfolding leaks run
and_yes_yes = simp layers refl

and_asks_both : always (if_so both) (1 ∷ []) 20 ≡ Starved 2
unfolding leaks run
and_asks_both = simp layers refl

-- a || b
abbrev either : Cond
either = Any (choice 2 ∷ choice 3 ∷ [])

or_yes : always (if_so either) (1 ∷ []) 20 ≡ Fault Assertion 8 2
unfolding leaks run
or_yes = simp layers refl

or_no_yes : always (if_so either) (0 ∷ 1 ∷ []) 20 ≡ Fault Assertion 8 3
unfolding leaks run
or_no_yes = simp layers refl

or_no_no : always (if_so either) (0 ∷ 0 ∷ []) 20 ≡ Ended 3
unfolding leaks run
or_no_no = simp layers refl

or_asks_both : always (if_so either) (0 ∷ []) 20 ≡ Starved 2
unfolding leaks run
or_asks_both = simp layers refl

not_and_no : always (if_so (Not both)) (0 ∷ []) 20 ≡ Fault Assertion 8 2
unfolding leaks run
not_and_no = simp layers refl

not_and_yes : always (if_so (Not both)) (1 ∷ 1 ∷ []) 20 ≡ Ended 3
unfolding leaks run
not_and_yes = simp layers refl

not_or_yes : always (if_so (Not either)) (1 ∷ []) 20 ≡ Ended 2
unfolding leaks run
not_or_yes = simp layers refl

not_or_no : always (if_so (Not either)) (0 ∷ 0 ∷ []) 20 ≡ Fault Assertion 8 3
unfolding leaks run
not_or_no = simp layers refl

-- one part, and three
and_of_one : always (if_so (All (choice 2 ∷ []))) (1 ∷ []) 20 ≡ Fault Assertion 8 2
unfolding leaks run
and_of_one = simp layers refl

or_of_one : always (if_so (Any (choice 2 ∷ []))) (0 ∷ []) 20 ≡ Ended 2
unfolding leaks run
or_of_one = simp layers refl

and_of_three : always (if_so (All (choice 2 ∷ choice 3 ∷ choice 4 ∷ []))) (1 ∷ 1 ∷ 1 ∷ []) 20 ≡ Fault Assertion 8 4
unfolding leaks run
and_of_three = simp layers refl

and_of_three_stops : always (if_so (All (choice 2 ∷ choice 3 ∷ choice 4 ∷ []))) (1 ∷ 0 ∷ []) 20 ≡ Ended 3
unfolding leaks run
and_of_three_stops = simp layers refl

or_of_three : always (if_so (Any (choice 2 ∷ choice 3 ∷ choice 4 ∷ []))) (0 ∷ 0 ∷ 1 ∷ []) 20 ≡ Fault Assertion 8 4
unfolding leaks run
or_of_three = simp layers refl

or_of_three_stops : always (if_so (Any (choice 2 ∷ choice 3 ∷ choice 4 ∷ []))) (0 ∷ 1 ∷ []) 20 ≡ Fault Assertion 8 3
unfolding leaks run
or_of_three_stops = simp layers refl

-- (a || b) && c, and a && b || c
or_in_and : always (if_so (All (either ∷ choice 4 ∷ []))) (0 ∷ 1 ∷ 0 ∷ []) 20 ≡ Ended 4
unfolding leaks run
or_in_and = simp layers refl

or_in_and_skips : always (if_so (All (either ∷ choice 4 ∷ []))) (1 ∷ 1 ∷ []) 20 ≡ Fault Assertion 8 3
unfolding leaks run
or_in_and_skips = simp layers refl

and_in_or : always (if_so (Any (both ∷ choice 4 ∷ []))) (0 ∷ 1 ∷ []) 20 ≡ Fault Assertion 8 3
unfolding leaks run
and_in_or = simp layers refl

and_in_or_skips : always (if_so (Any (both ∷ choice 4 ∷ []))) (1 ∷ 1 ∷ []) 20 ≡ Fault Assertion 8 3
unfolding leaks run
and_in_or_skips = simp layers refl

-- 2 p = NULL;  if (p != NULL 3 && p->next == NULL 4) 8 error();  9 return 0;
and_guards :
    always
    (main nodes 1 0
    (null (var 0) 2 ∷ Branch (All (is_set 0 3 ∷ compare (OpPath (arrow 0 0)) OpNull true 4 ∷ [])) (error 8 ∷ []) []
    ∷ leave 9 ∷ []) 10) [] 20 ≡ Ended 3
unfolding leaks run
and_guards = simp layers refl

-- the same with ||: the second atom meets its fault in its own line
or_does_not :
    always
    (main nodes 1 0
    (null (var 0) 2 ∷ Branch (Any (is_set 0 3 ∷ compare (OpPath (arrow 0 0)) OpNull true 4 ∷ [])) (error 8 ∷ []) []
    ∷ leave 9 ∷ []) 10) [] 20 ≡ Fault NullDeref 4 3
unfolding leaks run
or_does_not = simp layers refl

-- the side that is taken stands before what follows, the other is gone
-- if (nondet() 2) 3 x = 1; else 4 x = 2;  assert(x == 1); 5  6 return 0;
abbrev sides : Program
sides =
    main [] 0 1 (Branch (choice 2) (put (DataVar 0) 1 3 ∷ []) (put (DataVar 0) 2 4 ∷ [])
    ∷ Branch (has 0 1 5) [] (error 5 ∷ []) ∷ leave 6 ∷ []) 7

yes_side : always (sides) (1 ∷ []) 20 ≡ Ended 4
unfolding leaks run
yes_side = simp layers refl

no_side : always (sides) (0 ∷ []) 20 ≡ Fault Assertion 5 4
unfolding leaks run
no_side = simp layers refl
