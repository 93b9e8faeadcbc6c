use Rattle.std.proofs.Common.{◌≡◌, ◌++◌, drop}
use Rattle.c_edges.specs.Calling.{each_links}
use Rattle.c_edges.proofs.calls.give_each.Given as goal

abbrev pub invariant-loop-at : goal.invariant-loop-at
invariant-loop-at l = l.links ++ each_links l.counts (drop l.at l.params) (drop l.at l.args) ≡ l.initial.links
    ++ each_links l.counts l.params l.args
