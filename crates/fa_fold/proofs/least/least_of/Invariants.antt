use Rattle.std.proofs.Common.{ℕ, ◌<◌}
use Rattle.fa_fold.specs.inner.Seeking.{CanNotFoldAt}
use Rattle.fa_fold.proofs.least.least_of.Given as goal

abbrev pub invariant-loop-input : goal.invariant-loop-input
invariant-loop-input l = (i : ℕ) → i < l.input → CanNotFoldAt l.table l.forest.forest l.box_no i
