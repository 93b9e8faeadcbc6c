-- To which locations and stores the runs of a graph come, on any choices, and that no run is stuck there.
use Rattle.std.specs.Prelude.{◌≡◌, ◌<◌, ◌⊎◌, ℕ, List, [], true}
use Rattle.fore_base.specs.declared.shape.Shape.{Shape}
use Rattle.fore_base.specs.declared.store.Store.{Store}
use Rattle.fore_base.specs.Lists.{IsIn}
use Rattle.c_types.specs.Runs.{empty_store}
use Rattle.c_cfg.specs.declared.graph.Edge.{Edge}
use Rattle.c_cfg.specs.Graphs.{ControlGraph}
use Rattle.c_cfg.specs.Edges.{Passed, NotPassed, gstep}
use Rattle.c_cfg.specs.GraphRuns.{out_of, is_taken_on}

-- from location 0 and the empty store, by edges that are passed
pub data Visits (g : ControlGraph) : ℕ → Store → Type 0 where
  begin : Visits g 0 (empty_store g.ptrs g.datums)
  by_edge : {k : ℕ} {s t : Store} (e : Edge) → Visits g k s → IsIn e (out_of g.edges k) → gstep g.shapes.structs e s
      ≡ Passed t → Visits g e.to t

-- one of these edges is taken on the choice x, and is passed, meets a fault, or ends the run
pub record HasWay (shapes : List Shape) (es : List Edge) (x : ℕ) (s : Store) : Type 0 where
  pub edge : Edge
  pub is_there : IsIn edge es
  pub taken : is_taken_on x edge.choice ≡ true
  pub goes : gstep shapes edge s ≡ NotPassed → ⊥

-- wherever a run comes, no edge begins there, or on either choice one of them goes somewhere
abbrev pub IsNeverStuck : ControlGraph → Type 0
IsNeverStuck g = (k : ℕ) (s : Store) → Visits g k s → (x : ℕ) → x < 2 → (out_of g.edges k ≡ [])
    ⊎ HasWay g.shapes.structs (out_of g.edges k) x s
