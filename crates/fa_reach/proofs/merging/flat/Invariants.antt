use Rattle.std.proofs.Common.{◌≡◌, ◌++◌, drop}
use Rattle.fa_reach.specs.inner.Going.{flat}
use Rattle.fa_reach.proofs.merging.flat.Given as goal

abbrev pub invariant-loop-down : goal.invariant-loop-down
invariant-loop-down l = l.roots ++ flat (drop l.down-index l.downs) ≡ flat l.downs
