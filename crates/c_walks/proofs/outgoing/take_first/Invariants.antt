use Rattle.std.proofs.Common.{◌≡◌, ℕ, drop}
use Rattle.fore_base.specs.declared.store.Store.{Store}
use Rattle.c_types.specs.declared.outcome.Outcome.{Outcome}
use Rattle.c_cfg.specs.GraphRuns.{out_of, first_pass}
use Rattle.c_walks.proofs.outgoing.take_first.Given as goal

abbrev pub invariant-loop-edge : goal.invariant-loop-edge
invariant-loop-edge l = record {
  heap : l.heap ≡ l.initial.heap;
  goes : (next : ℕ → Store → Outcome) (step : ℕ)
      → first_pass l.shapes (out_of (drop l.edge-index l.edges) l.location) l.choice next step l.initial.heap
      ≡ first_pass l.shapes (out_of l.edges l.location) l.choice next step l.initial.heap;
}
