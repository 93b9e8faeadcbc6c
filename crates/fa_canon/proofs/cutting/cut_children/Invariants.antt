use Rattle.std.proofs.Common.{[], ◌∷◌}
use Rattle.fa_canon.specs.inner.Knots.{HasCutAt}
use Rattle.fa_canon.specs.inner.Steps.{IsSplitEach}
use Rattle.fa_canon.proofs.cutting.cut_children.Given as goal

abbrev pub invariant-loop-place : goal.invariant-loop-place
invariant-loop-place l = IsSplitEach (HasCutAt l.count l.root l.place l.width) (l.fn.forest ∷ []) l.list
