use Rattle.fa_canon.specs.inner.Steps.{IsSplitEach}
use Rattle.fa_canon.proofs.steps.on_each.Given as goal

abbrev pub invariant-loop-forest : goal.invariant-loop-forest
invariant-loop-forest g l = IsSplitEach (g.S.Step.relates l.step) l.yielded l.made
