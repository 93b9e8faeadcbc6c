use Rattle.std.proofs.Common.{length}
use Rattle.fa_unfold.proofs.slots.+joined.Given as goal

abbrev pub decreases-joined : goal.decreases-joined
decreases-joined l = length l.more.now
