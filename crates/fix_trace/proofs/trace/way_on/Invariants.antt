use Rattle.std.proofs.Common.{length}
use Rattle.fix_trace.specs.Tracing.{IsOnWay}
use Rattle.fix_trace.proofs.trace.way_on.Given as goal

abbrev pub invariant-down : goal.invariant-down
invariant-down l = IsOnWay l.nodes l.back l.at l.way l.choices

abbrev pub decreases-down : goal.decreases-down
decreases-down l = length l.back
