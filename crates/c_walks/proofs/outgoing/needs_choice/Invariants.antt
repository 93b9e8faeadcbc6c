use Rattle.std.proofs.Common.{◌≡◌, drop}
use Rattle.c_cfg.specs.GraphRuns.{out_of}
use Rattle.c_walks.specs.inner.Outgoing.{asked}
use Rattle.c_walks.proofs.outgoing.needs_choice.Given as goal

abbrev pub invariant-loop-edge : goal.invariant-loop-edge
invariant-loop-edge l = asked (out_of (drop l.edge-index l.edges) l.location) ≡ asked (out_of l.edges l.location)
