-- A row on the graph of a program with a function that is called twice: each call has its own copy of the body.
use Rattle.std.proofs.Common.{◌≡◌, ℕ, false, Some, None, [], ◌∷◌, map, refl, arith}
use Rattle.std.specs.Prelude.{slice_index_or}
use Rattle.c_types.specs.declared.mode.MallocMode.TheVariants.{Always}
use Rattle.c_types.specs.declared.program.PtrRhs.TheVariants.{Path as RhsPath}
use Rattle.c_types.specs.declared.program.PtrOp.TheVariants.{Path as OpPath, Null as OpNull}
use Rattle.c_types.specs.declared.program.VarRef.TheVariants.{Ptr as PtrRef}
use Rattle.c_types.specs.declared.program.Arg.TheVariants.{Ptr as GivenPtr}
use Rattle.c_types.specs.declared.program.Dest.TheVariants.{Ptr as ToPtr}
use Rattle.c_types.specs.declared.program.Act.TheVariants.{SetPtr, Return, Leave as LeaveAct}
use Rattle.c_types.specs.declared.program.Stmt.TheVariants.{Do as DoStmt, Group, Call}
use Rattle.c_types.specs.declared.program.Func.{Func}
use Rattle.c_types.specs.Program.{Program}
use Rattle.c_types.specs.Control.{Items, Done, Do, Close, Enter, Leave, Exit, start_of}
use Rattle.c_types.specs.Steps.{mark_of}
use Rattle.c_types.proofs.Layers.{layers}
use Rattle.c_cfg.specs.declared.graph.PtrArg.TheVariants.{Var as PtrVar, Null as PtrNull}
use Rattle.c_cfg.specs.declared.graph.Instr.TheVariants.{CopyPtr, LoadPtr, Kill}
use Rattle.c_cfg.specs.Graphs.{ControlGraph}
use Rattle.c_cfg.specs.Places.{remark, places}
use Rattle.c_cfg.specs.Lowering.{LowerOf}
use Rattle.c_cfg.proofs.Rows.Forms.{graph, main, goes, var, arrow}
use Rattle.c_cfg.proofs.Rows.Lowerings.{located, differ, one}

-- The variables are the result, the parameter and the local variable of the function, and main's:
-- 1 struct node *second(struct node *l) {
-- 2   struct node *t = l->next;
-- 3   return t;
-- 4 }
-- 5 int main(void) { struct node *x = second(NULL);
-- 6   second(x);
-- 7   return;
-- 8 }

abbrev second : Func
second = record {
  name = [];
  params = PtrRef 1 ∷ [];
  locals = PtrRef 2 ∷ [];
  result = Some (PtrRef 0);
  body = Group
      (DoStmt (SetPtr (var 2) (RhsPath (arrow 1 0))) 2 ∷ DoStmt (LeaveAct 0 (Some (GivenPtr (OpPath (var 2))))) 3 ∷ [])
      (2 ∷ []) [] 4 ∷ [];
}

abbrev calling : Program
calling =
    record (main 4 0 []) {
      funcs = second ∷ [];
      body = Group
          (Call 0 (GivenPtr OpNull ∷ []) (Some (ToPtr (var 3))) 5 ∷ Call 0 (GivenPtr (OpPath (var 3)) ∷ []) None 6
          ∷ DoStmt (Return None) 7 ∷ []) (3 ∷ []) [] 8 ∷ [];
    }

abbrev calling_graph : ControlGraph
calling_graph = graph 16 6 2
    (goes 0 1 (CopyPtr 1 PtrNull) 5
    ∷ goes 1 2 (LoadPtr 2 1 0) 2
    ∷ goes 2 3 (CopyPtr 0 (PtrVar 2)) 3 ∷ goes 3 5 (Kill (2 ∷ []) []) 3
    ∷ goes 4 5 (Kill (2 ∷ []) []) 4
    ∷ goes 5 6 (CopyPtr 3 (PtrVar 0)) 5 ∷ goes 6 7 (Kill (0 ∷ 1 ∷ []) []) 5
    ∷ goes 7 8 (CopyPtr 1 (PtrVar 3)) 6
    ∷ goes 8 9 (LoadPtr 2 1 0) 2
    ∷ goes 9 10 (CopyPtr 0 (PtrVar 2)) 3 ∷ goes 10 12 (Kill (2 ∷ []) []) 3
    ∷ goes 11 12 (Kill (2 ∷ []) []) 4
    ∷ goes 12 13 (Kill (0 ∷ 1 ∷ []) []) 6
    ∷ goes 13 15 (Kill (0 ∷ 1 ∷ 2 ∷ 3 ∷ 4 ∷ 5 ∷ []) (0 ∷ 1 ∷ [])) 7
    ∷ goes 14 15 (Kill (3 ∷ []) []) 8 ∷ [])
    (false ∷ false ∷ false ∷ false ∷ false ∷ false ∷ false ∷ false
    ∷ false ∷ false ∷ false ∷ false ∷ false ∷ false ∷ false ∷ false ∷ [])

-- the body's items at these marks, before others
abbrev inside : ℕ → ℕ → ℕ → Items → Items
inside load leave close is =
    Do (SetPtr (var 2) (RhsPath (arrow 1 0))) load
    (Leave (Some (PtrRef 0)) (PtrRef 2 ∷ []) (Some (GivenPtr (OpPath (var 2)))) leave (Close (2 ∷ []) [] close is))

abbrev calling_items : Items
calling_items =
    Enter (PtrRef 1 ∷ []) (GivenPtr OpNull ∷ []) 0
    (inside 1 2 4
    (Exit (Some (PtrRef 0)) (PtrRef 1 ∷ []) (Some (ToPtr (var 3))) 5
    (Enter (PtrRef 1 ∷ []) (GivenPtr (OpPath (var 3)) ∷ []) 7
    (inside 8 9 11
    (Exit (Some (PtrRef 0)) (PtrRef 1 ∷ []) None 12 (Do (Return None) 13 (Close (3 ∷ []) [] 14 Done)))))))

abbrev calling_line : ℕ → ℕ
calling_line m = slice_index_or (5 ∷ 2 ∷ 3 ∷ 3 ∷ 4 ∷ 5 ∷ 5 ∷ 6 ∷ 2 ∷ 3 ∷ 3 ∷ 4 ∷ 6 ∷ 7 ∷ 8 ∷ []) m 0

calling_is : remark calling_line calling_items ≡ start_of calling
calling_is = simp layers refl

calling_lowers : LowerOf calling Always calling_graph
calling_lowers = record {
  items = calling_items;
  line = calling_line;
  is_program = calling_is;
  own_marks = differ (map mark_of (places calling_items Done)) refl;
  at = located 15;
  mids = λ c. slice_index_or
      ([] ∷ [] ∷ (3 ∷ []) ∷ [] ∷ [] ∷ (6 ∷ []) ∷ [] ∷ [] ∷ [] ∷ (10 ∷ []) ∷ []) (mark_of c) [];
  entry = refl;
  exit = refl;
  rows = (
    record { way = one 1; leads = (refl, refl); middle = refl },
    (
      record { way = one 2; leads = (refl, refl); middle = refl },
      (
        record { way = 3 ∷ 5 ∷ []; leads = (refl, (refl, refl)); middle = refl },
        (
          record { way = one 5; leads = (refl, refl); middle = refl },
          (
            record { way = 6 ∷ 7 ∷ []; leads = (refl, (refl, refl)); middle = refl },
            (
              record { way = one 8; leads = (refl, refl); middle = refl },
              (
                record { way = one 9; leads = (refl, refl); middle = refl },
                (
                  record { way = 10 ∷ 12 ∷ []; leads = (refl, (refl, refl)); middle = refl },
                  (
                    record { way = one 12; leads = (refl, refl); middle = refl },
                    (
                      record { way = one 13; leads = (refl, refl); middle = refl },
                      (
                        record { way = one 15; leads = (refl, refl); middle = refl },
                        (
                          record { way = one 15; leads = (refl, refl); middle = refl },
                          tt,
                        ),
                      ),
                    ),
                  ),
                ),
              ),
            ),
          ),
        ),
      ),
    ),
  );
  all_numbers = record { moves = []; below = tt; is = refl };
  each_from = grind arith;
  in_order = grind arith;
  ptrs = refl;
  datums = refl;
  heads_are = refl;
  shapes = refl;
}
