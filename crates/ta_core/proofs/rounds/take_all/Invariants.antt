use Rattle.ta_core.proofs.rounds.take_all.Given as goal

abbrev pub invariant-rounds : goal.invariant-rounds
invariant-rounds g l = g.K.Taker.keeps l.taker l.value

abbrev pub decreases-rounds : goal.decreases-rounds
decreases-rounds g l = g.K.Taker.left l.taker l.value
