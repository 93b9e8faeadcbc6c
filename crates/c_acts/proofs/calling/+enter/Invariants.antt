use Rattle.std.proofs.Common.{length}
use Rattle.c_acts.proofs.calling.+enter.Given as goal

abbrev pub decreases-enter : goal.decreases-enter
decreases-enter l = length l.params.now
