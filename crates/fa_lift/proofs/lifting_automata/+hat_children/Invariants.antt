use Rattle.std.proofs.Common.{length}
use Rattle.fa_lift.proofs.lifting_automata.+hat_children.Given as goal

abbrev pub decreases-hat_children : goal.decreases-hat_children
decreases-hat_children l = length l.states.now
