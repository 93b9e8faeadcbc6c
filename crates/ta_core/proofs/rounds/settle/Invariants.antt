use Rattle.ta_core.proofs.rounds.settle.Given as goal

abbrev pub invariant-rounds : goal.invariant-rounds
invariant-rounds g l = g.R.Rounds.keeps l.rounds l.value

abbrev pub decreases-rounds : goal.decreases-rounds
decreases-rounds g l = g.R.Rounds.left l.rounds l.value
