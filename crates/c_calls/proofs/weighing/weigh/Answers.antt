use Rattle.std.proofs.Common.{List, ℕ, length, ap, subst, ◌∙◌}
use Rattle.c_calls.proofs.Weighed.{weights_deeper}
use Rattle.c_calls.specs.inner.Weighing.{AreNextWeights}
use Rattle.c_calls.proofs.weighing.weigh.Goals as goal

pub next_weights-requires-clause-weights : goal.next_weights-requires-clause-weights
next_weights-requires-clause-weights c = ap length c.as_slice.ensures ∙ c.loop-depth.invariant.long

pub loop-depth-preserved : goal.loop-depth-preserved
loop-depth-preserved c =
    let next = subst
    (λ (z : List ℕ). AreNextWeights c.args.statements.now c.args.calls.now c.args.cap z c.in_ok-weights-2.weights)
    c.as_slice.ensures c.in_ok-weights-2.ensures in
    weights_deeper c.args.statements.now c.args.calls.now c.args.cap c.loop-depth._depth c.loop-depth.weights
    c.in_ok-weights-2.weights c.requires.within c.loop-depth.invariant next
