use Rattle.std.proofs.Common.{take}
use Rattle.fore_base.specs.Lists.{Paired}
use Rattle.ta_incl.specs.inner.Founds.{IsPairOf}
use Rattle.ta_incl.proofs.thinning.pairs_of.Given as goal

abbrev pub invariant-loop-pair : goal.invariant-loop-pair
invariant-loop-pair l = Paired IsPairOf (take l.pair-index l.found) l.pairs
