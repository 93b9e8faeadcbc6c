-- Rows on `malloc` that may fail: it takes a choice, 1 gives a cell and 0 the null pointer. x is the pointer
-- variable 0.
use Rattle.std.proofs.Common.{◌≡◌, true, false, [], ◌∷◌, Ok, Err, refl}
use Rattle.fore_base.specs.declared.fault.Fault.TheVariants.{NullDeref, Leak, Assertion}
use Rattle.fore_base.specs.declared.store.Value.TheVariants.{Null, Uninit, Cell}
use Rattle.fore_base.specs.declared.store.Store.{Store}
use Rattle.fore_base.specs.Heap.{leaks}
use Rattle.c_types.specs.declared.mode.MallocMode.TheVariants.{Always, MayFail}
use Rattle.c_types.specs.declared.program.PtrRhs.TheVariants.{Path as RhsPath, Null as RhsNull, New as RhsNew}
use Rattle.c_types.specs.declared.program.Act.TheVariants.{SetPtr}
use Rattle.c_types.specs.declared.program.Cond.TheVariants.{Not}
use Rattle.c_types.specs.declared.program.Stmt.TheVariants.{Branch}
use Rattle.c_types.specs.declared.outcome.Outcome.TheVariants.{Ended, Fault, Starved, BadChoice}
use Rattle.c_types.specs.Program.{Program}
use Rattle.c_types.specs.Control.{Done, Do}
use Rattle.c_types.specs.Steps.{assign, takes}
use Rattle.c_types.specs.Runs.{run}
use Rattle.c_types.proofs.Layers.{layers}
use Rattle.c_types.proofs.Rows.Forms.{always, failing, nodes, var, arrow, arrows, choice, is_null, is_set, null, new}
use Rattle.c_types.proofs.Rows.Forms.{free, error, halt, leave, main_with}

-- One assignment

abbrev before : Store
before = record { vars = Uninit ∷ []; data_vars = []; cells = []; next = 1 }

-- the new cell's one field is not set
abbrev with_cell : Store
with_cell = record {
  vars = Cell 1 ∷ [];
  data_vars = [];
  cells = record { number = 1; shape = 0; datums = []; fields = Uninit ∷ [] } ∷ [];
  next = 2;
}

one_makes_a_cell : assign nodes MayFail before (var 0) (RhsNew 0) 1 ≡ Ok with_cell
one_makes_a_cell = refl

-- the number of the next cell stays
zero_makes_none : assign nodes MayFail before (var 0) (RhsNew 0) 0 ≡ Ok (record before { vars = Null ∷ [] })
zero_makes_none = refl

always_makes_a_cell : assign nodes Always before (var 0) (RhsNew 0) 0 ≡ Ok with_cell
always_makes_a_cell = refl

null_is_null : assign nodes MayFail before (var 0) RhsNull 1 ≡ Ok (record before { vars = Null ∷ [] })
null_is_null = refl

through_null : assign nodes MayFail (record before { vars = Null ∷ [] }) (arrow 0 0) (RhsNew 0) 0 ≡ Err NullDeref
through_null = refl

-- Which assignments take a choice

malloc_takes_one : takes MayFail (Do (SetPtr (var 0) (RhsNew 0)) 1 Done) ≡ true
malloc_takes_one = refl

malloc_takes_none : takes Always (Do (SetPtr (var 0) (RhsNew 0)) 1 Done) ≡ false
malloc_takes_none = refl

null_takes_none : takes MayFail (Do (SetPtr (var 0) RhsNull) 1 Done) ≡ false
null_takes_none = refl

copy_takes_none : takes MayFail (Do (SetPtr (var 0) (RhsPath (var 0))) 1 Done) ≡ false
copy_takes_none = refl

-- struct node *x = 3 malloc();  if (x == NULL 4) 4 return 0;  5 free(x);  6 return 0;
abbrev guarded : Program
guarded = main_with nodes 1 0
    (new (var 0) 3 ∷ Branch (is_null 0 4) (leave 4 ∷ []) [] ∷ free (var 0) 5 ∷ leave 6 ∷ []) (0 ∷ []) [] 6

guarded_starved : failing guarded [] 20 ≡ Starved 1
unfolding leaks run
guarded_starved = simp layers refl

guarded_zero : failing guarded (0 ∷ []) 20 ≡ Ended 3
unfolding leaks run
guarded_zero = simp layers refl

guarded_one : failing guarded (1 ∷ []) 20 ≡ Ended 4
unfolding leaks run
guarded_one = simp layers refl

guarded_bad : failing guarded (2 ∷ []) 20 ≡ BadChoice 0
unfolding leaks run
guarded_bad = simp layers refl

-- where each `malloc` gives a cell no choice is looked at
guarded_always : always guarded [] 20 ≡ Ended 4
unfolding leaks run
guarded_always = simp layers refl

guarded_always_zero : always guarded (0 ∷ []) 20 ≡ Ended 4
unfolding leaks run
guarded_always_zero = simp layers refl

guarded_always_two : always guarded (2 ∷ []) 20 ≡ Ended 4
unfolding leaks run
guarded_always_two = simp layers refl

-- struct node *x = 3 NULL;  4 x->next = malloc();  5
-- the choice comes before the arrow is followed, whatever it is
abbrev through : Program
through = main_with nodes 1 0 (null (var 0) 3 ∷ new (arrow 0 0) 4 ∷ []) (0 ∷ []) [] 5

through_starved : failing through [] 20 ≡ Starved 2
unfolding leaks run
through_starved = simp layers refl

through_zero : failing through (0 ∷ []) 20 ≡ Fault NullDeref 4 2
unfolding leaks run
through_zero = simp layers refl

through_one : failing through (1 ∷ []) 20 ≡ Fault NullDeref 4 2
unfolding leaks run
through_one = simp layers refl

through_bad : failing through (3 ∷ []) 20 ≡ BadChoice 0
unfolding leaks run
through_bad = simp layers refl

through_always : always through [] 20 ≡ Fault NullDeref 4 2
unfolding leaks run
through_always = simp layers refl

-- struct node *x = 3 malloc();  if (!(x != NULL 4)) 4 abort();  5 x->next = malloc();  6 x->next->next = NULL;
-- 7 free(x->next);  7 free(x);  8
abbrev second : Program
second = main_with nodes 1 0
    (new (var 0) 3 ∷ Branch (Not (is_set 0 4)) (halt 4 ∷ []) [] ∷ new (arrow 0 0) 5 ∷ null (arrows 0 0 0) 6
    ∷ free (arrow 0 0) 7 ∷ free (var 0) 7 ∷ []) (0 ∷ []) [] 8

second_fails : failing second (1 ∷ 0 ∷ []) 20 ≡ Fault NullDeref 6 4
unfolding leaks run
second_fails = simp layers refl

both_succeed : failing second (1 ∷ 1 ∷ []) 20 ≡ Ended 7
unfolding leaks run
both_succeed = simp layers refl

first_fails : failing second (0 ∷ []) 20 ≡ Ended 3
unfolding leaks run
first_fails = simp layers refl

second_starved : failing second (1 ∷ []) 20 ≡ Starved 3
unfolding leaks run
second_starved = simp layers refl

-- struct node *x = 3 malloc();  4 x = malloc();  5 free(x);  6
-- a null pointer over the one reference to a cell leaks it too
abbrev twice : Program
twice = main_with nodes 1 0 (new (var 0) 3 ∷ new (var 0) 4 ∷ free (var 0) 5 ∷ []) (0 ∷ []) [] 6

twice_none : failing twice (0 ∷ 0 ∷ []) 20 ≡ Ended 4
unfolding leaks run
twice_none = simp layers refl

twice_second : failing twice (0 ∷ 1 ∷ []) 20 ≡ Ended 4
unfolding leaks run
twice_second = simp layers refl

twice_first : failing twice (1 ∷ 0 ∷ []) 20 ≡ Fault Leak 4 2
unfolding leaks run
twice_first = simp layers refl

twice_both : failing twice (1 ∷ 1 ∷ []) 20 ≡ Fault Leak 4 2
unfolding leaks run
twice_both = simp layers refl

-- 4 x = malloc();  if (nondet_int() 5) assert(x != NULL 5);  6 free(x);  7
abbrev between : Program
between = main_with nodes 1 0
    (new (var 0) 4 ∷ Branch (choice 5) (Branch (is_set 0 5) [] (error 5 ∷ []) ∷ []) [] ∷ free (var 0) 6 ∷ []) (0 ∷ [])
    [] 7

between_asserts : failing between (0 ∷ 1 ∷ []) 20 ≡ Fault Assertion 5 4
unfolding leaks run
between_asserts = simp layers refl

between_passes : failing between (0 ∷ 0 ∷ []) 20 ≡ Ended 4
unfolding leaks run
between_passes = simp layers refl

between_holds : failing between (1 ∷ 1 ∷ []) 20 ≡ Ended 5
unfolding leaks run
between_holds = simp layers refl

between_starved : failing between (0 ∷ []) 20 ≡ Starved 2
unfolding leaks run
between_starved = simp layers refl

between_always : always between (0 ∷ []) 20 ≡ Ended 4
unfolding leaks run
between_always = simp layers refl
