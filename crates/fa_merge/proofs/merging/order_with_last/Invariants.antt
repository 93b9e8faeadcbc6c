use Rattle.std.proofs.Common.{◌≡◌}
use Rattle.fa_merge.specs.Merged.{others}
use Rattle.fa_merge.specs.Reordered.{counted}
use Rattle.fa_merge.proofs.merging.order_with_last.Given as goal

abbrev pub invariant-loop-other : goal.invariant-loop-other
invariant-loop-other l = l.order ≡ others l.root (counted 0 l.other)
