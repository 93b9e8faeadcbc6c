use Rattle.std.proofs.Common.{◌-◌, ◌^◌, length}
use Rattle.fore_base.specs.Lists.{IsDistinct}
use Rattle.fa_signatures.proofs.pairing.pair_by.Given as goal

abbrev pub invariant-rounds : goal.invariant-rounds
invariant-rounds l = IsDistinct l.pairs

abbrev pub decreases-rounds : goal.decreases-rounds
decreases-rounds l = 2 ^ 64 - length l.pairs
