use Rattle.std.proofs.Common.{◌≡◌}
use Rattle.fa_reach.specs.inner.Sweeps.{Gains}
use Rattle.fa_reach.proofs.spreading.spread.Given as goal

abbrev pub invariant-loop-part : goal.invariant-loop-part
invariant-loop-part l = (l.place ≡ l.part-index) × Gains l.parts l.known l.more
