-- Rows on graphs of programs: whole graphs, each shown to be one of its program. Marks are the numbers of locations, so
-- a location is the mark of a place, and the exit is the last one.
use Rattle.std.proofs.Common.{◌≡◌, ℕ, Bool, true, false, true≢false, not, ◌&&◌, Some, None, List, [], ◌∷◌, map, arith}
use Rattle.std.proofs.Common.{refl, sym}
use Rattle.std.specs.Prelude.{slice_index_or}
use Rattle.std.proofs.lemmas.Bool.{and_parts}
use Rattle.fore_base.specs.Lists.{IsDistinct}
use Rattle.fore_base.proofs.ListLemmas.{in_number}
use Rattle.c_types.specs.declared.mode.MallocMode.TheVariants.{Always}
use Rattle.c_types.specs.declared.program.DataPath.TheVariants.{Var as DataVar, Field as DataField}
use Rattle.c_types.specs.declared.program.PtrRhs.TheVariants.{New as RhsNew}
use Rattle.c_types.specs.declared.program.DataRhs.TheVariants.{Choice as DataRhsChoice}
use Rattle.c_types.specs.declared.program.Act.TheVariants.{SetPtr, SetData, Free, Error, Halt, Return, Break, Continue}
use Rattle.c_types.specs.declared.program.PtrOp.TheVariants.{Path as OpPath, Null as OpNull}
use Rattle.c_types.specs.declared.program.DataOp.TheVariants.{Path as DataOpPath, Known as DataOpKnown}
use Rattle.c_types.specs.declared.program.Atom.TheVariants.{Choice as ChoiceAtom, Known as KnownAtom, Ptr as PtrAtom}
use Rattle.c_types.specs.declared.program.Atom.TheVariants.{Data as DataAtom}
use Rattle.c_types.specs.declared.program.Cond.TheVariants.{Atom as AtomCond, Not as NotCond, All as AllCond}
use Rattle.c_types.specs.declared.program.Cond.TheVariants.{Any as AnyCond}
use Rattle.c_types.specs.declared.program.Stmt.TheVariants.{Do as DoStmt, Branch, While, DoWhile, For, Group}
use Rattle.c_types.specs.Program.{Program}
use Rattle.c_types.specs.Control.{Items, Done, Do, Close, If, Loop, Again, DoLoop, DoAgain, Ask, Not, Both, Either}
use Rattle.c_types.specs.Control.{Enter, Leave, Exit, start_of}
use Rattle.c_types.specs.Steps.{mark_of}
use Rattle.c_types.proofs.Layers.{layers}
use Rattle.c_cfg.specs.declared.graph.PtrArg.TheVariants.{Var as PtrVar, Null as PtrNull}
use Rattle.c_cfg.specs.declared.graph.DataArg.TheVariants.{Var as ArgVar, Known as ArgKnown}
use Rattle.c_cfg.specs.declared.graph.Instr.TheVariants.{LoadPtr, StorePtr, New, Free as FreeEdge, Kill, LoadData}
use Rattle.c_cfg.specs.declared.graph.Instr.TheVariants.{StoreData, TestPtr, TestData, Choose, Stop}
use Rattle.c_cfg.specs.Graphs.{ControlGraph}
use Rattle.c_cfg.specs.Places.{remark, places}
use Rattle.c_cfg.specs.Lowering.{LowerOf, is_one_of}
use Rattle.c_cfg.proofs.Rows.Forms.{graph, main, goes, takes, var, arrow}

-- the location of an opened list where marks are locations
abbrev pub located : ℕ → Items → ℕ
located exit Done = exit
located exit (Do a m is) = m
located exit (Close ps ds m is) = m
located exit (If c x y is) = mark_of (If c x y is)
located exit (Loop c n b is) = exit
located exit (Again c n b is) = exit
located exit (DoLoop c b is) = exit
located exit (DoAgain c b is) = exit
located exit (Enter vs ws m is) = m
located exit (Leave v vs a m is) = m
located exit (Exit v vs d m is) = m

-- that numbers differ, by a test
abbrev all_differ : List ℕ → Bool
all_differ [] = true
all_differ (n ∷ ns) = not (is_one_of ns n) && all_differ ns

pub differ : (ns : List ℕ) → all_differ ns ≡ true → IsDistinct ns
differ [] e = tt
differ (n ∷ ns) e = let both = and_parts (not (is_one_of ns n)) (all_differ ns) e in
    (λ h. clash (is_one_of ns n) (in_number n ns h) both.0, differ ns both.1)
  where
    clash : (b : Bool) → b ≡ true → not b ≡ true → ⊥
    clash true e f = true≢false (sym f)
    clash false e f = true≢false (sym e)

-- 1 while (x->next != y) {
-- 2   if (nondet() && d) break;
--   }
-- 3 x->next = malloc(..);
-- 4 return;

abbrev breaking : Program
breaking = main 2 1
    (While (AtomCond (PtrAtom (OpPath (arrow 0 0)) (OpPath (var 1)) false) 1)
    (Branch
    (AllCond (AtomCond ChoiceAtom 2 ∷ AtomCond (DataAtom (DataOpPath (DataVar 0)) (DataOpKnown 0) false) 2 ∷ []))
    (DoStmt Break 2 ∷ []) [] ∷ [])
    ∷ DoStmt (SetPtr (arrow 0 0) (RhsNew 0)) 3 ∷ DoStmt (Return None) 4 ∷ [])

abbrev breaking_graph : ControlGraph
breaking_graph = graph 12 4 3
    (goes 0 1 (LoadPtr 2 0 0) 1
    ∷ goes 1 2 (TestPtr (PtrVar 2) (PtrVar 1) true) 1 ∷ goes 1 3 (TestPtr (PtrVar 2) (PtrVar 1) false) 1
    ∷ goes 2 7 (Kill (2 ∷ []) []) 1
    ∷ goes 3 4 (Kill (2 ∷ []) []) 1
    ∷ takes 4 0 (Choose None) 0 2 ∷ takes 4 5 (Choose None) 1 2
    ∷ goes 5 0 (TestData (ArgVar 0) (ArgKnown 0) true) 2 ∷ goes 5 6 (TestData (ArgVar 0) (ArgKnown 0) false) 2
    ∷ goes 6 7 (Kill [] []) 2
    ∷ goes 7 8 (New 2 0) 3 ∷ goes 8 9 (StorePtr 0 0 2) 3 ∷ goes 9 10 (Kill (2 ∷ []) []) 3
    ∷ goes 10 11 (Kill (0 ∷ 1 ∷ 2 ∷ 3 ∷ []) (0 ∷ 1 ∷ 2 ∷ [])) 4 ∷ [])
    (true ∷ false ∷ false ∷ false ∷ false ∷ false ∷ false ∷ false ∷ false ∷ false ∷ false ∷ false ∷ [])

abbrev breaking_items : Items
breaking_items =
    Loop (Ask (PtrAtom (OpPath (arrow 0 0)) (OpPath (var 1)) false) 0) Done
    (If (Both (Ask ChoiceAtom 4) (Ask (DataAtom (DataOpPath (DataVar 0)) (DataOpKnown 0) false) 5)) (Do Break 6 Done)
    Done Done)
    (Do (SetPtr (arrow 0 0) (RhsNew 0)) 7 (Do (Return None) 10 Done))

abbrev breaking_line : ℕ → ℕ
breaking_line m = slice_index_or (1 ∷ 1 ∷ 1 ∷ 1 ∷ 2 ∷ 2 ∷ 2 ∷ 3 ∷ 3 ∷ 3 ∷ 4 ∷ []) m 0

breaking_is : remark breaking_line breaking_items ≡ start_of breaking
breaking_is = simp layers refl

breaking_lowers : LowerOf breaking Always breaking_graph
breaking_lowers = record {
  items = breaking_items;
  line = breaking_line;
  is_program = breaking_is;
  own_marks = differ (map mark_of (places breaking_items Done)) refl;
  at = located 11;
  mids = λ c. slice_index_or ((1 ∷ 2 ∷ 3 ∷ []) ∷ [] ∷ [] ∷ [] ∷ [] ∷ [] ∷ [] ∷ (8 ∷ 9 ∷ []) ∷ []) (mark_of c) [];
  entry = refl;
  exit = refl;
  rows = (
    record {
      tested = 1;
      if_same = 2;
      if_other = 3;
      front = 1 ∷ [];
      after_same = 7 ∷ [];
      after_other = 4 ∷ [];
      reads = (refl, refl);
      compares = refl;
      same_ends = (refl, refl);
      other_ends = (refl, refl);
      middle = refl;
    },
    (
      (refl, refl),
      (
        record {
          tested = 5;
          if_same = 0;
          if_other = 6;
          front = [];
          after_same = [];
          after_other = [];
          reads = refl;
          compares = refl;
          same_ends = refl;
          other_ends = refl;
          middle = refl;
        },
        (
          record { way = 7 ∷ []; leads = (refl, refl); middle = refl },
          (
            record { way = 8 ∷ 9 ∷ 10 ∷ []; leads = (refl, (refl, (refl, refl))); middle = refl },
            (
              record { way = 11 ∷ []; leads = (refl, refl); middle = refl },
              tt,
            ),
          ),
        ),
      ),
    ),
  );
  all_numbers = record { moves = []; below = tt; is = refl };
  each_from = grind arith;
  in_order = grind arith;
  ptrs = refl;
  datums = refl;
  heads_are = refl;
  shapes = refl;
}

-- 1 for (; 1; d = nondet_bool()) {
-- 2   struct node *y;
-- 3   do { continue; } while (!nondet());
-- 4   if (0) exit(1);
-- 5   continue;
-- 6 }
-- 7 reach_error();
-- 8 return d;

abbrev going_on : Program
going_on = main 2 1
    (For (AtomCond (KnownAtom true) 1) (DoStmt (SetData (DataVar 0) DataRhsChoice) 1 ∷ [])
    (Group
    (DoWhile (NotCond (AtomCond ChoiceAtom 3)) (DoStmt Continue 3 ∷ [])
    ∷ Branch (AtomCond (KnownAtom false) 4) (DoStmt Halt 4 ∷ []) []
    ∷ DoStmt Continue 5 ∷ [])
    (1 ∷ []) [] 6 ∷ [])
    ∷ DoStmt Error 7 ∷ DoStmt (Return (Some (DataVar 0))) 8 ∷ [])

abbrev going_on_graph : ControlGraph
going_on_graph = graph 11 4 3
    (goes 0 1 (Kill [] []) 1
    ∷ goes 1 2 (Kill [] []) 3
    ∷ takes 2 1 (Choose None) 0 3 ∷ takes 2 3 (Choose None) 1 3
    ∷ goes 3 5 (Kill [] []) 4
    ∷ goes 4 10 (Stop false) 4
    ∷ goes 5 7 (Kill (1 ∷ []) []) 5
    ∷ goes 6 7 (Kill (1 ∷ []) []) 6
    ∷ takes 7 0 (Choose (Some 0)) 0 1 ∷ takes 7 0 (Choose (Some 0)) 1 1
    ∷ goes 8 10 (Stop true) 7
    ∷ goes 9 10 (Kill (0 ∷ 1 ∷ 2 ∷ 3 ∷ []) (0 ∷ 1 ∷ 2 ∷ [])) 8 ∷ [])
    (true ∷ false ∷ true ∷ false ∷ false ∷ false ∷ false ∷ false ∷ false ∷ false ∷ false ∷ [])

abbrev going_on_items : Items
going_on_items =
    Loop (Ask (KnownAtom true) 0) (Do (SetData (DataVar 0) DataRhsChoice) 7 Done)
    (DoLoop (Not (Ask ChoiceAtom 2)) (Do Continue 1 Done)
    (If (Ask (KnownAtom false) 3) (Do Halt 4 Done) Done (Do Continue 5 (Close (1 ∷ []) [] 6 Done))))
    (Do Error 8 (Do (Return (Some (DataVar 0))) 9 Done))

abbrev going_on_line : ℕ → ℕ
going_on_line m = slice_index_or (1 ∷ 3 ∷ 3 ∷ 4 ∷ 4 ∷ 5 ∷ 6 ∷ 1 ∷ 7 ∷ 8 ∷ []) m 0

going_on_is : remark going_on_line going_on_items ≡ start_of going_on
going_on_is = simp layers refl

-- a step of one edge, to this location
abbrev pub one : ℕ → List ℕ
one to = to ∷ []

going_on_lowers : LowerOf going_on Always going_on_graph
going_on_lowers = record {
  items = going_on_items;
  line = going_on_line;
  is_program = going_on_is;
  own_marks = differ (map mark_of (places going_on_items Done)) refl;
  at = located 10;
  mids = λ c. [];
  entry = refl;
  exit = refl;
  rows = (
    (refl, refl),
    (
      record { way = one 2; leads = (refl, refl); middle = refl },
      (
        (refl, refl),
        (
          (refl, refl),
          (
            record { way = one 10; leads = (refl, refl); middle = refl },
            (
              record { way = one 7; leads = (refl, refl); middle = refl },
              (
                record { way = one 7; leads = (refl, refl); middle = refl },
                (
                  record { way = one 0; leads = (refl, refl); middle = refl },
                  (
                    record { way = one 10; leads = (refl, refl); middle = refl },
                    (
                      record { way = one 10; leads = (refl, refl); middle = refl },
                      tt,
                    ),
                  ),
                ),
              ),
            ),
          ),
        ),
      ),
    ),
  );
  all_numbers = record { moves = []; below = tt; is = refl };
  each_from = grind arith;
  in_order = grind arith;
  ptrs = refl;
  datums = refl;
  heads_are = refl;
  shapes = refl;
}

-- 1 { int e;
-- 2   if (x == NULL || x->key == 3) free(x->next); else x->key = nondet_bool();
-- 3 }
-- Both sides join at the end of the block, and the left side of the condition shares the yes side. The location 11 is
-- one in the middle of a step that begins
-- at 8: the numbers are free.

abbrev sharing : Program
sharing = main 1 1
    (Group
    (Branch
    (AnyCond (AtomCond (PtrAtom (OpPath (var 0)) OpNull true) 2
    ∷ AtomCond (DataAtom (DataOpPath (DataField (var 0) 0)) (DataOpKnown 3) true) 2 ∷ []))
    (DoStmt (Free (arrow 0 0)) 2 ∷ []) (DoStmt (SetData (DataField (var 0) 0) DataRhsChoice) 2 ∷ []) ∷ [])
    [] (0 ∷ []) 3 ∷ [])

abbrev sharing_graph : ControlGraph
sharing_graph = graph 13 3 3
    (goes 0 5 (TestPtr (PtrVar 0) PtrNull true) 2 ∷ goes 0 1 (TestPtr (PtrVar 0) PtrNull false) 2
    ∷ goes 1 2 (LoadData 1 0 0) 2
    ∷ goes 2 3 (TestData (ArgVar 1) (ArgKnown 3) true) 2 ∷ goes 2 4 (TestData (ArgVar 1) (ArgKnown 3) false) 2
    ∷ goes 3 5 (Kill [] (1 ∷ [])) 2
    ∷ goes 4 8 (Kill [] (1 ∷ [])) 2
    ∷ goes 5 6 (LoadPtr 1 0 0) 2 ∷ goes 6 7 (FreeEdge 1) 2 ∷ goes 7 10 (Kill (1 ∷ []) []) 2
    ∷ takes 8 9 (Choose (Some 1)) 0 2 ∷ takes 8 9 (Choose (Some 1)) 1 2
    ∷ goes 9 11 (StoreData 0 0 1) 2
    ∷ goes 10 12 (Kill [] (0 ∷ [])) 3
    ∷ goes 11 10 (Kill [] (1 ∷ [])) 2 ∷ [])
    (false ∷ false ∷ false ∷ false ∷ false ∷ false ∷ false ∷ false ∷ false ∷ false ∷ false ∷ false ∷ false ∷ [])

abbrev sharing_items : Items
sharing_items =
    If
    (Either (Ask (PtrAtom (OpPath (var 0)) OpNull true) 0)
    (Ask (DataAtom (DataOpPath (DataField (var 0) 0)) (DataOpKnown 3) true) 1))
    (Do (Free (arrow 0 0)) 5 Done) (Do (SetData (DataField (var 0) 0) DataRhsChoice) 8 Done) (Close [] (0 ∷ []) 10 Done)

abbrev sharing_line : ℕ → ℕ
sharing_line m = slice_index_or (2 ∷ 2 ∷ 2 ∷ 2 ∷ 2 ∷ 2 ∷ 2 ∷ 2 ∷ 2 ∷ 2 ∷ 3 ∷ []) m 0

sharing_is : remark sharing_line sharing_items ≡ start_of sharing
sharing_is = simp layers refl

sharing_lowers : LowerOf sharing Always sharing_graph
sharing_lowers = record {
  items = sharing_items;
  line = sharing_line;
  is_program = sharing_is;
  own_marks = differ (map mark_of (places sharing_items Done)) refl;
  at = located 12;
  mids = λ c. slice_index_or ([] ∷ (2 ∷ 3 ∷ 4 ∷ []) ∷ [] ∷ [] ∷ [] ∷ (6 ∷ 7 ∷ []) ∷ [] ∷ [] ∷ (9 ∷ 11 ∷ []) ∷ [])
      (mark_of c) [];
  entry = refl;
  exit = refl;
  rows = (
    record {
      tested = 0;
      if_same = 5;
      if_other = 1;
      front = [];
      after_same = [];
      after_other = [];
      reads = refl;
      compares = refl;
      same_ends = refl;
      other_ends = refl;
      middle = refl;
    },
    (
      record {
        tested = 2;
        if_same = 3;
        if_other = 4;
        front = 2 ∷ [];
        after_same = 5 ∷ [];
        after_other = 8 ∷ [];
        reads = (refl, refl);
        compares = refl;
        same_ends = (refl, refl);
        other_ends = (refl, refl);
        middle = refl;
      },
      (
        record { way = 6 ∷ 7 ∷ 10 ∷ []; leads = (refl, (refl, (refl, refl))); middle = refl },
        (
          record { way = 9 ∷ 11 ∷ 10 ∷ []; leads = (refl, (refl, (refl, refl))); middle = refl },
          (
            record { way = one 12; leads = (refl, refl); middle = refl },
            tt,
          ),
        ),
      ),
    ),
  );
  all_numbers = record { moves = (10, 11) ∷ []; below = grind arith; is = refl };
  each_from = grind arith;
  in_order = grind arith;
  ptrs = refl;
  datums = refl;
  heads_are = refl;
  shapes = refl;
}
