use Rattle.std.proofs.Common.{◌≡◌}
use Rattle.c_types.specs.Steps.{below}
use Rattle.c_edges.proofs.acts.all_below.Given as goal

abbrev pub invariant-loop-number : goal.invariant-loop-number
invariant-loop-number l = l.list ≡ below l.number
