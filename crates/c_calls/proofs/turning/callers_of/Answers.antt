use Rattle.std.proofs.Common.{◌≡◌, List, ℕ, subst, ◌∙◌}
use Rattle.c_calls.proofs.Callers.{callers_more}
use Rattle.c_calls.proofs.Places.{called_item}
use Rattle.c_calls.specs.Calls.{called_by}
use Rattle.c_calls.specs.inner.Turning.{Adds}
use Rattle.c_calls.proofs.turning.callers_of.Goals as goal

pub loop-caller-preserved : goal.loop-caller-preserved
loop-caller-preserved c =
    let k = c.loop-caller.caller in
    let e : c.as_slice.result.now ≡ called_by c.args.calls.now k =
    c.as_slice.ensures ∙ called_item c.args.calls.now k c.index-calls-caller.result c.loop-caller-test.true
    c.index-calls-caller.is in
    callers_more c.args.calls.now k c.loop-caller.callers c.add_caller.new.callers c.loop-caller.invariant
    (subst (λ (z : List ℕ). Adds k z c.loop-caller.callers c.add_caller.new.callers) e c.in_ok-add_caller.ensures)
