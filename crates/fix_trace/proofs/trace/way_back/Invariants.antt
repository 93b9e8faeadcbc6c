use Rattle.std.proofs.Common.{◌<◌, length}
use Rattle.fix_trace.specs.Tracing.{LeadsBack}
use Rattle.fix_trace.proofs.trace.way_back.Given as goal

abbrev pub invariant-up : goal.invariant-up
invariant-up l = LeadsBack l.nodes l.back l.here l.at × (l.here < length l.nodes)

abbrev pub decreases-up : goal.decreases-up
decreases-up l = l.here
