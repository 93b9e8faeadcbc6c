use Rattle.std.proofs.Common.{ℕ, Some, ◌<◌}
use Rattle.fa_core.specs.LeastFolds.{CanFold}
use Rattle.fa_fold.proofs.least.least_end.Given as goal

abbrev pub invariant-loop-end : goal.invariant-loop-end
invariant-loop-end l = (j : ℕ) → j < l.end → CanFold l.table l.forest.forest l.box_no l.input (Some j) → ⊥
