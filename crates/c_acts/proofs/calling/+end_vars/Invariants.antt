use Rattle.std.proofs.Common.{length}
use Rattle.c_acts.proofs.calling.+end_vars.Given as goal

abbrev pub decreases-end_vars : goal.decreases-end_vars
decreases-end_vars l = length l.vars.now
