use Rattle.ta_incl.proofs.Keeping.{AreMarkedBelow}
use Rattle.ta_incl.proofs.thinning.states_of.Given as goal

abbrev pub invariant-loop-state : goal.invariant-loop-state
invariant-loop-state l = AreMarkedBelow l.marks l.state l.set
