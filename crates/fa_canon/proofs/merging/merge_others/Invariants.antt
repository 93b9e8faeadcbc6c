use Rattle.std.proofs.Common.{length}
use Rattle.fa_canon.specs.inner.Merges.{IsRegrouped}
use Rattle.fa_canon.proofs.merging.merge_others.Given as goal

abbrev pub invariant-merges : goal.invariant-merges
invariant-merges l = IsRegrouped l.fn.forest l.merged

abbrev pub decreases-merges : goal.decreases-merges
decreases-merges l = length l.merged.forest.autos
