use Rattle.std.proofs.Common.{length}
use Rattle.fa_unfold.proofs.slots.+without.Given as goal

abbrev pub decreases-without : goal.decreases-without
decreases-without l = length l.places.now
