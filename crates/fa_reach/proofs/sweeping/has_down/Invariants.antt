use Rattle.std.proofs.Common.{◌≡◌, drop}
use Rattle.fa_reach.specs.inner.Sweeps.{has_down}
use Rattle.fa_reach.proofs.sweeping.has_down.Given as goal

abbrev pub invariant-loop-down : goal.invariant-loop-down
invariant-loop-down l = has_down l.set (drop l.down-index l.downs) ≡ has_down l.set l.downs
