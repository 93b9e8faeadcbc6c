use Rattle.std.proofs.Common.{ℕ, ◌<◌}
use Rattle.fa_fold.specs.inner.Seeking.{CanNotFold}
use Rattle.fa_fold.proofs.least.least_by.Given as goal

abbrev pub invariant-loop-box_no : goal.invariant-loop-box_no
invariant-loop-box_no l = (n : ℕ) → n < l.box_no → CanNotFold l.table l.forest.forest n
