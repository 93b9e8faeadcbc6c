use Rattle.std.proofs.Common.{◌≡◌, [], drop}
use Rattle.c_edges.specs.Calling.{each_temps}
use Rattle.c_edges.proofs.calls.each_used.Given as goal

abbrev pub invariant-loop-arg : goal.invariant-loop-arg
invariant-loop-arg l = record {
  none : l.list ≡ [];
  others : each_temps l.counts (drop l.arg-index l.args) ≡ each_temps l.counts l.args;
}
