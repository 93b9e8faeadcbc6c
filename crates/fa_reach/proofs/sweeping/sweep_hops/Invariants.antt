use Rattle.std.proofs.Common.{◌≡◌, drop}
use Rattle.fa_reach.specs.inner.Sweeps.{sweep_hops}
use Rattle.fa_reach.proofs.sweeping.sweep_hops.Given as goal

abbrev pub invariant-loop-hop : goal.invariant-loop-hop
invariant-loop-hop l = sweep_hops (drop l.hop-index l.hops) l.set ≡ sweep_hops l.hops l.initial.set
