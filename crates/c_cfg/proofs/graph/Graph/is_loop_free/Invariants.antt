use Rattle.std.proofs.Common.{◌≡◌, not, drop}
use Rattle.std.specs.List.{list_all}
use Rattle.c_cfg.proofs.graph.Graph.is_loop_free.Given as goal

abbrev pub invariant-loop-is_head : goal.invariant-loop-is_head
invariant-loop-is_head l = list_all not (drop l.is_head-index l.self.heads) ≡ list_all not l.self.heads
