use Rattle.fa_order.proofs.OpenBacks.{IsBest}
use Rattle.fa_order.proofs.ways_back.least_giving.Given as goal

abbrev pub invariant-loop-place : goal.invariant-loop-place
invariant-loop-place l = IsBest l.signatures l.placed l.from l.place l.best
