use Rattle.c_calls.specs.inner.Weighing.{AreWeightsWithin}
use Rattle.c_calls.proofs.weighing.weigh.Given as goal

abbrev pub invariant-loop-depth : goal.invariant-loop-depth
invariant-loop-depth l = AreWeightsWithin l.statements l.calls l.cap l._depth l.weights
