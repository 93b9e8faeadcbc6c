use Rattle.std.proofs.Common.{length}
use Rattle.ta_incl.proofs.Keeping.{Thinning}
use Rattle.ta_incl.proofs.thinning.thinned.Given as goal

abbrev pub invariant-pairs : goal.invariant-pairs
invariant-pairs l = Thinning l.order l.fn.found l.rest l.kept

abbrev pub decreases-pairs : goal.decreases-pairs
decreases-pairs l = length l.rest
