use Rattle.std.proofs.Common.{[], ◌∷◌}
use Rattle.fa_canon.specs.inner.Steps.{HasChosen, IsSplitEach}
use Rattle.fa_canon.proofs.choosing.choose_rules.Given as goal

abbrev pub invariant-loop-root : goal.invariant-loop-root
invariant-loop-root l = IsSplitEach (HasChosen l.root) (l.fn.forest ∷ []) l.list
