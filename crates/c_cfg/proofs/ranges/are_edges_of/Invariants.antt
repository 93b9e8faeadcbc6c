use Rattle.std.proofs.Common.{take}
use Rattle.fore_base.specs.Lists.{Every}
use Rattle.c_cfg.specs.Ranges.{IsEdgeOf}
use Rattle.c_cfg.proofs.ranges.are_edges_of.Given as goal

abbrev pub invariant-loop-edge : goal.invariant-loop-edge
invariant-loop-edge l = Every (IsEdgeOf l.graph) (take l.edge-index l.graph.edges)
