use Rattle.par_kit.proofs.finding.+find.Given as goal

abbrev pub decreases-find : goal.decreases-find
decreases-find g l = l.pieces

abbrev pub decreases-join+arg2 : goal.decreases-join+arg2
decreases-join+arg2 g l = l.low

abbrev pub decreases-join+arg3 : goal.decreases-join+arg3
decreases-join+arg3 g l = l.high
