-- The edges of a graph where `malloc` may fail, from those of the graph where it never does.
use Rattle.std.specs.Prelude.{ℕ, List, [], ◌∷◌, ◌++◌, Option, Some, None}
use Rattle.c_types.specs.declared.mode.MallocMode.{MallocMode}
use Rattle.c_types.specs.declared.mode.MallocMode.TheVariants.{Always, MayFail}
use Rattle.c_cfg.specs.declared.graph.Edge.{Edge}
use Rattle.c_cfg.specs.Links.{failing}
use Rattle.c_cfg.specs.Lowering.{edge, link_edges}

-- an edge that has a choice stays
abbrev pub edges_for : Option ℕ → Edge → List Edge
edges_for None e = link_edges e.line e.from e.to (failing e.instr)
edges_for (Some x) e = edge e.line e.from e.to e.instr (Some x) ∷ []

abbrev pub failing_edges : Edge → List Edge
failing_edges e = edges_for e.choice e

abbrev pub edges_in : MallocMode → List Edge → List Edge
edges_in Always es = es
edges_in MayFail [] = []
edges_in MayFail (e ∷ es) = failing_edges e ++ edges_in MayFail es
