use Rattle.std.proofs.Common.{◌≡◌, ◌≤◌, ◌+◌, ◌-◌, length}
use Rattle.c_cfg.specs.GraphRuns.{grun}
use Rattle.c_walks.specs.inner.Outgoing.{rest_of}
use Rattle.c_walks.proofs.graph_run.Walk.go_all.Given as goal

abbrev pub invariant-loop-step : goal.invariant-loop-step
invariant-loop-step l = record {
  goes : grun l.graph l.choices l.limit
      ≡ rest_of l.graph (l.limit - l.step) l.step l.self.location l.self.heap l.choices l.self.used;
  next : l.self.heap.next ≤ l.step + 1;
  used : l.self.used ≤ length l.choices;
}
