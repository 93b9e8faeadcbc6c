use Rattle.fa_join.specs.Joinable.{SameRuns}
use Rattle.fa_join.specs.inner.Apart.{IsApart}
use Rattle.fa_join.proofs.comparing.states_apart.Given as goal

abbrev pub invariant-loop-place : goal.invariant-loop-place
invariant-loop-place l = IsApart (SameRuns l.left l.right) l.from l.to l.place l.found
