use Rattle.std.proofs.Common.{[], ◌∷◌}
use Rattle.fa_canon.specs.inner.Knots.{HasCut}
use Rattle.fa_canon.specs.inner.Steps.{IsSplitEach}
use Rattle.fa_canon.proofs.cutting.cut_knots.Given as goal

abbrev pub invariant-loop-root : goal.invariant-loop-root
invariant-loop-root l = IsSplitEach (HasCut l.count l.root 0) (l.fn.forest ∷ []) l.list
