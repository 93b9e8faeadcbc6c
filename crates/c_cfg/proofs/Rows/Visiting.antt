-- Rows on what runs come to, on runs that are stuck, and on what temporaries hold.
use Rattle.std.proofs.Common.{◌≡◌, ◌⊎◌, inl, inr, false, [], ◌∷◌, refl, ap, arith}
use Rattle.fore_base.specs.declared.store.Value.TheVariants.{Null, Uninit}
use Rattle.fore_base.specs.declared.store.Datum.TheVariants.{Known, Undefined}
use Rattle.fore_base.specs.declared.store.Store.{Store}
use Rattle.fore_base.specs.Lists.{IsIn}
use Rattle.fore_base.specs.Heap.{leaks}
use Rattle.c_cfg.specs.declared.graph.PtrArg.TheVariants.{Null as PtrNull}
use Rattle.c_cfg.specs.declared.graph.Instr.TheVariants.{CopyPtr, LoadPtr, TestPtr}
use Rattle.c_cfg.specs.declared.graph.Edge.{Edge}
use Rattle.c_cfg.specs.Graphs.{ControlGraph}
use Rattle.c_cfg.specs.Edges.{NotPassed, gstep}
use Rattle.c_cfg.specs.GraphRuns.{out_of}
use Rattle.c_cfg.specs.Temporaries.{TemporariesUnset}
use Rattle.c_cfg.specs.Visits.{Visits, begin, by_edge, HasWay, IsNeverStuck}
use Rattle.c_cfg.proofs.Rows.Forms.{two, store, graph, goes}

-- 0 --x0 = NULL--> 1 --x0 = x0->f--> 2
abbrev null_then_load : ControlGraph
null_then_load = graph 3 1 0 (goes 0 1 (CopyPtr 0 PtrNull) 4 ∷ goes 1 2 (LoadPtr 0 0 0) 7 ∷ []) []

begins_unset : Visits null_then_load 0 (store (Uninit ∷ []) [] [] 1)
begins_unset = begin

comes_to_the_second : Visits null_then_load 1 (store (Null ∷ []) [] [] 1)
unfolding leaks
comes_to_the_second = by_edge (goes 0 1 (CopyPtr 0 PtrNull) 4) begin (inl refl) refl

-- an edge that meets a fault goes somewhere
faults_there : HasWay two (out_of null_then_load.edges 1) 0 (store (Null ∷ []) [] [] 1)
faults_there = record { edge = goes 1 2 (LoadPtr 0 0 0) 7; is_there = inl refl; taken = refl; goes = λ e. cc e }

-- the one edge is that of a test with the other outcome
abbrev stuck : ControlGraph
stuck = graph 2 1 0 (goes 0 1 (TestPtr PtrNull PtrNull false) 3 ∷ []) []

abbrev unset : Store
unset = store (Uninit ∷ []) [] [] 1

refuses_stuck : IsNeverStuck stuck → ⊥
refuses_stuck never = by (never 0 unset begin 0 (omega arith))
  where
    by_none : (e : Edge) → IsIn e (out_of stuck.edges 0) → (gstep two e unset ≡ NotPassed → ⊥) → ⊥
    by_none e (inl is) way = way (ap (λ f. gstep two f unset) is)
    by_none e (inr h) way = h

    by : (out_of stuck.edges 0 ≡ []) ⊎ HasWay two (out_of stuck.edges 0) 0 unset → ⊥
    by (inl none) = cc none
    by (inr h) = by_none h.edge h.is_there h.goes

-- behind one pointer that is set and no data variable: two pointers and two data that are not
unset_behind : TemporariesUnset 1 0 (store (Null ∷ Uninit ∷ Uninit ∷ []) (Undefined ∷ Undefined ∷ []) [] 1)
unset_behind = record { first_ptr = refl; second_ptr = refl; first_datum = refl; second_datum = refl }

refuses_a_pointer_held : TemporariesUnset 1 0 (store (Null ∷ Uninit ∷ Null ∷ []) (Undefined ∷ Undefined ∷ []) [] 1) → ⊥
refuses_a_pointer_held h = cc h.second_ptr

refuses_a_datum_held : TemporariesUnset 1 0 (store (Null ∷ Uninit ∷ Uninit ∷ []) (Known 3 ∷ Undefined ∷ []) [] 1) → ⊥
refuses_a_datum_held h = cc h.first_datum

-- without temporaries
refuses_too_few : TemporariesUnset 1 0 (store (Null ∷ []) [] [] 1) → ⊥
refuses_too_few h = cc h.first_ptr
