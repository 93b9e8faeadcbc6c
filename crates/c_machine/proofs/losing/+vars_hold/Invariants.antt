use Rattle.std.proofs.Common.{length}
use Rattle.c_machine.proofs.losing.+vars_hold.Given as goal

abbrev pub decreases-vars_hold : goal.decreases-vars_hold
decreases-vars_hold l = length l.vars.now
