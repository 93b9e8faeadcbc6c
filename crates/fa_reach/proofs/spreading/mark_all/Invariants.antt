use Rattle.fa_reach.specs.inner.Sweeps.{Gains}
use Rattle.fa_reach.proofs.spreading.mark_all.Given as goal

abbrev pub invariant-loop-root : goal.invariant-loop-root
invariant-loop-root l = Gains l._parts l.initial.known l.known
