-- Rows on the graphs of programs whose `malloc` may fail: each is two edges to one location, the null pointer for the
-- choice 0 and then a new cell for the choice 1. Marks are the numbers of locations.
use Rattle.std.proofs.Common.{◌≡◌, ◌≤◌, ℕ, zero, suc, true, false, None, Some, List, [], ◌∷◌, map, refl, subst, arith}
use Rattle.std.specs.Prelude.{slice_index_or}
use Rattle.fore_base.specs.declared.fault.Fault.TheVariants.{NullDeref}
use Rattle.fore_base.specs.Heap.{leaks}
use Rattle.c_types.specs.declared.mode.MallocMode.TheVariants.{Always, MayFail}
use Rattle.c_types.specs.declared.outcome.Outcome.TheVariants.{Ended, Fault, Starved, BadChoice, StillRunning}
use Rattle.c_types.specs.declared.program.DataPath.TheVariants.{Var as DataVar}
use Rattle.c_types.specs.declared.program.PtrRhs.TheVariants.{Path as RhsPath, Null as RhsNull, New as RhsNew}
use Rattle.c_types.specs.declared.program.DataRhs.TheVariants.{Choice as DataRhsChoice}
use Rattle.c_types.specs.declared.program.Act.{Act}
use Rattle.c_types.specs.declared.program.Act.TheVariants.{SetPtr, SetData, Free, Return}
use Rattle.c_types.specs.declared.program.PtrOp.TheVariants.{Path as OpPath, Null as OpNull}
use Rattle.c_types.specs.declared.program.Atom.TheVariants.{Ptr as PtrAtom}
use Rattle.c_types.specs.declared.program.Cond.TheVariants.{Atom as AtomCond}
use Rattle.c_types.specs.declared.program.Stmt.TheVariants.{Do as DoStmt, Branch, Group}
use Rattle.c_types.specs.Program.{Program}
use Rattle.c_types.specs.Control.{Items, Done, Do, Close, If, Ask, start_of}
use Rattle.c_types.specs.Steps.{mark_of}
use Rattle.c_types.specs.Runs.{run}
use Rattle.c_types.proofs.Layers.{layers}
use Rattle.c_cfg.specs.declared.graph.PtrArg.TheVariants.{Var as PtrVar, Null as PtrNull}
use Rattle.c_cfg.specs.declared.graph.Const.TheVariants.{Null as ConstNull}
use Rattle.c_cfg.specs.declared.graph.Instr.TheVariants.{CopyPtr, LoadPtr, StorePtr, StoreConst, New, Free as FreeEdge}
use Rattle.c_cfg.specs.declared.graph.Instr.TheVariants.{Kill, TestPtr, Choose}
use Rattle.c_cfg.specs.Graphs.{ControlGraph}
use Rattle.c_cfg.specs.GraphRuns.{grun}
use Rattle.c_cfg.specs.Links.{Link, One, Two, links_in, act_row}
use Rattle.c_cfg.specs.Places.{remark, places}
use Rattle.c_cfg.specs.Lowering.{LowerOf}
use Rattle.c_cfg.specs.Agreement.{IsFaultAt, IsStarved, Agrees}
use Rattle.c_cfg.proofs.Rows.Forms.{graph, main, goes, takes, var, arrow, arrows}
use Rattle.c_cfg.proofs.Rows.Lowerings.{located, differ}

-- The edges of acts. The program has 10 pointer and 20 data variables, so that p0 = 10 and p1 = 11.

abbrev failing_row : Act → List Link
failing_row a = links_in MayFail (act_row 10 20 a Done)

-- x1 = malloc(..);  (of the struct 4)
makes_or_not : failing_row (SetPtr (var 1) (RhsNew 4)) ≡ Two (CopyPtr 1 PtrNull) (New 1 4) ∷ []
makes_or_not = refl

makes_always : links_in Always (act_row 10 20 (SetPtr (var 1) (RhsNew 4)) Done) ≡ One (New 1 4) ∷ []
makes_always = refl

-- x1->5 = malloc(..);
stores_or_not : failing_row (SetPtr (arrow 1 5) (RhsNew 4)) ≡ Two (CopyPtr 10 PtrNull) (New 10 4)
    ∷ One (StorePtr 1 5 10) ∷ One (Kill (10 ∷ []) []) ∷ []
stores_or_not = refl

-- x1->5->6 = malloc(..);
stores_behind_or_not : failing_row (SetPtr (arrows 1 5 6) (RhsNew 4)) ≡ Two (CopyPtr 10 PtrNull) (New 10 4)
    ∷ One (LoadPtr 11 1 5) ∷ One (StorePtr 11 6 10) ∷ One (Kill (10 ∷ 11 ∷ []) []) ∷ []
stores_behind_or_not = refl

-- x1 = NULL; x1 = x2; free(x1); d2 = nondet_bool(); stay
nulls_alike : failing_row (SetPtr (var 1) RhsNull) ≡ One (CopyPtr 1 PtrNull) ∷ []
nulls_alike = refl

copies_alike : failing_row (SetPtr (var 1) (RhsPath (var 2))) ≡ One (CopyPtr 1 (PtrVar 2)) ∷ []
copies_alike = refl

frees_alike : failing_row (Free (var 1)) ≡ One (FreeEdge 1) ∷ []
frees_alike = refl

chooses_alike : failing_row (SetData (DataVar 2) DataRhsChoice) ≡ Two (Choose (Some 2)) (Choose (Some 2)) ∷ []
chooses_alike = refl

-- 3 { struct node *x = malloc(..);
-- 4   if (x == NULL) return 0;
-- 5   free(x);
-- 6   return 0; }
-- The end of the block, at 5, is not reached.

abbrev guarded : Program
guarded = main 1 0
    (Group
    (DoStmt (SetPtr (var 0) (RhsNew 0)) 3
    ∷ Branch (AtomCond (PtrAtom (OpPath (var 0)) OpNull true) 4) (DoStmt (Return None) 4 ∷ []) []
    ∷ DoStmt (Free (var 0)) 5 ∷ DoStmt (Return None) 6 ∷ [])
    (0 ∷ []) [] 6 ∷ [])

abbrev guarded_graph : ControlGraph
guarded_graph = graph 7 3 2
    (takes 0 1 (CopyPtr 0 PtrNull) 0 3 ∷ takes 0 1 (New 0 0) 1 3
    ∷ goes 1 2 (TestPtr (PtrVar 0) PtrNull true) 4 ∷ goes 1 3 (TestPtr (PtrVar 0) PtrNull false) 4
    ∷ goes 2 6 (Kill (0 ∷ 1 ∷ 2 ∷ []) (0 ∷ 1 ∷ [])) 4
    ∷ goes 3 4 (FreeEdge 0) 5
    ∷ goes 4 6 (Kill (0 ∷ 1 ∷ 2 ∷ []) (0 ∷ 1 ∷ [])) 6
    ∷ goes 5 6 (Kill (0 ∷ []) []) 6 ∷ [])
    (false ∷ false ∷ false ∷ false ∷ false ∷ false ∷ false ∷ [])

abbrev guarded_items : Items
guarded_items =
    Do (SetPtr (var 0) (RhsNew 0)) 0
    (If (Ask (PtrAtom (OpPath (var 0)) OpNull true) 1) (Do (Return None) 2 Done) Done
    (Do (Free (var 0)) 3 (Do (Return None) 4 (Close (0 ∷ []) [] 5 Done))))

abbrev guarded_line : ℕ → ℕ
guarded_line m = slice_index_or (3 ∷ 4 ∷ 4 ∷ 5 ∷ 6 ∷ 6 ∷ []) m 0

guarded_is : remark guarded_line guarded_items ≡ start_of guarded
guarded_is = simp layers refl

guarded_lowers : LowerOf guarded MayFail guarded_graph
guarded_lowers = record {
  items = guarded_items;
  line = guarded_line;
  is_program = guarded_is;
  own_marks = differ (map mark_of (places guarded_items Done)) refl;
  at = located 6;
  mids = λ c. [];
  entry = refl;
  exit = refl;
  rows = (
    record { way = 1 ∷ []; leads = (refl, refl); middle = refl },
    (
      record {
        tested = 1;
        if_same = 2;
        if_other = 3;
        front = [];
        after_same = [];
        after_other = [];
        reads = refl;
        compares = refl;
        same_ends = refl;
        other_ends = refl;
        middle = refl;
      },
      (
        record { way = 6 ∷ []; leads = (refl, refl); middle = refl },
        (
          record { way = 4 ∷ []; leads = (refl, refl); middle = refl },
          (
            record { way = 6 ∷ []; leads = (refl, refl); middle = refl },
            (
              record { way = 6 ∷ []; leads = (refl, refl); middle = refl },
              tt,
            ),
          ),
        ),
      ),
    ),
  );
  all_numbers = record { moves = []; below = tt; is = refl };
  each_from = grind arith;
  in_order = grind arith;
  ptrs = refl;
  datums = refl;
  heads_are = refl;
  shapes = refl;
}

-- the program's run of these choices takes as many steps, and comes out so
starves : grun guarded_graph [] 20 ≡ Starved 1
unfolding leaks grun
starves = refl

ends_on_null : grun guarded_graph (0 ∷ []) 20 ≡ Ended 3
unfolding leaks grun
ends_on_null = refl

ends_on_a_cell : grun guarded_graph (1 ∷ []) 20 ≡ Ended 4
unfolding leaks grun
ends_on_a_cell = refl

refuses_two : grun guarded_graph (2 ∷ []) 20 ≡ BadChoice 0
unfolding leaks grun
refuses_two = refl

-- 3 x->next = malloc(..);

abbrev storing : Program
storing = main 1 0 (DoStmt (SetPtr (arrow 0 0) (RhsNew 0)) 3 ∷ [])

abbrev storing_graph : ControlGraph
storing_graph = graph 4 3 2
    (takes 0 1 (CopyPtr 1 PtrNull) 0 3 ∷ takes 0 1 (New 1 0) 1 3
    ∷ goes 1 2 (StorePtr 0 0 1) 3 ∷ goes 2 3 (Kill (1 ∷ []) []) 3 ∷ [])
    (false ∷ false ∷ false ∷ false ∷ [])

abbrev storing_items : Items
storing_items = Do (SetPtr (arrow 0 0) (RhsNew 0)) 0 Done

storing_is : remark (λ m. 3) storing_items ≡ start_of storing
storing_is = simp layers refl

storing_lowers : LowerOf storing MayFail storing_graph
storing_lowers = record {
  items = storing_items;
  line = λ m. 3;
  is_program = storing_is;
  own_marks = differ (map mark_of (places storing_items Done)) refl;
  at = located 3;
  mids = λ c. 1 ∷ 2 ∷ [];
  entry = refl;
  exit = refl;
  rows = (record { way = 1 ∷ 2 ∷ 3 ∷ []; leads = (refl, (refl, (refl, refl))); middle = refl }, tt);
  all_numbers = record { moves = []; below = tt; is = refl };
  each_from = grind arith;
  in_order = grind arith;
  ptrs = refl;
  datums = refl;
  heads_are = refl;
  shapes = refl;
}

-- { x0 = malloc(..); x0->next = NULL; } in the lines 3 and 4, and graphs that do not agree with it

abbrev writing : Program
writing = main 1 0 (DoStmt (SetPtr (var 0) (RhsNew 0)) 3 ∷ DoStmt (SetPtr (arrow 0 0) RhsNull) 4 ∷ [])

meets_null : run writing MayFail (0 ∷ []) 2 ≡ Fault NullDeref 4 2
unfolding leaks run
meets_null = simp layers refl

wants_a_choice : run writing MayFail [] 1 ≡ Starved 1
unfolding leaks run
wants_a_choice = simp layers refl

-- the cell for the choice 0
abbrev cell_first : ControlGraph
cell_first = graph 3 3 2
    (takes 0 1 (New 0 0) 0 3 ∷ takes 0 1 (CopyPtr 0 PtrNull) 1 3 ∷ goes 1 2 (StoreConst 0 0 ConstNull) 4 ∷ []) []

never_meets_null : (m : ℕ) → IsFaultAt NullDeref 4 (grun cell_first (0 ∷ []) m) → ⊥
unfolding leaks grun
never_meets_null zero h = cc h.1
never_meets_null (suc zero) h = cc h.1
never_meets_null (suc (suc zero)) h = cc h.1
never_meets_null (suc (suc (suc m))) h = cc h.1

refuses_cell_first : Agrees writing MayFail cell_first → ⊥
refuses_cell_first a =
    let found = (a.faults (0 ∷ []) NullDeref 4).there 2 (2, meets_null) in never_meets_null found.0 found.1

-- a cell, whatever comes
abbrev cell_alone : ControlGraph
cell_alone = graph 3 3 2 (goes 0 1 (New 0 0) 3 ∷ goes 1 2 (StoreConst 0 0 ConstNull) 4 ∷ []) []

never_wants : (m : ℕ) → IsStarved (grun cell_alone [] m) → ⊥
unfolding leaks grun
never_wants zero h = cc h.1
never_wants (suc zero) h = cc h.1
never_wants (suc (suc zero)) h = cc h.1
never_wants (suc (suc (suc m))) h = cc h.1

refuses_cell_alone : Agrees writing MayFail cell_alone → ⊥
refuses_cell_alone a = let found = (a.starves []).there 1 (1, wants_a_choice) in never_wants found.0 found.1

-- both edges, where each `malloc` gives a cell
abbrev cell_or_null : ControlGraph
cell_or_null = graph 3 3 2
    (takes 0 1 (CopyPtr 0 PtrNull) 0 3 ∷ takes 0 1 (New 0 0) 1 3 ∷ goes 1 2 (StoreConst 0 0 ConstNull) 4 ∷ []) []

it_wants : IsStarved (grun cell_or_null [] 1)
unfolding leaks grun
it_wants = (1, refl)

waits : run writing Always [] 0 ≡ StillRunning
unfolding leaks run
waits = simp layers refl

waits_still : run writing Always [] 1 ≡ StillRunning
unfolding leaks run
waits_still = simp layers refl

never_starves : (n : ℕ) → n ≤ 1 → IsStarved (run writing Always [] n) → ⊥
never_starves zero less h = let e : IsStarved StillRunning = subst IsStarved waits h in cc e.1
never_starves (suc zero) less h = let e : IsStarved StillRunning = subst IsStarved waits_still h in cc e.1
never_starves (suc (suc n)) less h = omega (arith, less)

refuses_cell_or_null : Agrees writing Always cell_or_null → ⊥
refuses_cell_or_null a = let found = (a.starves []).back 1 it_wants in never_starves found.0 found.1 found.2
