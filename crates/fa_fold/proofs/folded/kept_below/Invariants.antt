use Rattle.std.proofs.Common.{◌≡◌, ◌++◌, ◌-◌}
use Rattle.fa_merge.specs.Reordered.{counted}
use Rattle.fa_folding.specs.Made.{kept_of}
use Rattle.fa_fold.proofs.folded.kept_below.Given as goal

abbrev pub invariant-loop-root : goal.invariant-loop-root
invariant-loop-root l =
    l.made ++ kept_of l.inner (counted l.root (l.count - l.root)) ≡ kept_of l.inner (counted 0 l.count)
