use Rattle.fa_reach.specs.inner.Sweeps.{Gains}
use Rattle.fa_reach.proofs.spreading.spread_hops.Given as goal

abbrev pub invariant-loop-hop : goal.invariant-loop-hop
invariant-loop-hop l = Gains l.parts l.initial.known l.known
