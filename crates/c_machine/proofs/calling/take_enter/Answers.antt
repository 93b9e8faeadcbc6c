use Rattle.std.proofs.Common.{sym, ap, ◌∙◌}
use Rattle.c_types.specs.Losses.{vars_hold}
use Rattle.c_machine.proofs.Kept.{enter_kept}
use Rattle.c_machine.proofs.calling.take_enter.Goals as goal

pub settle-requires-clause-kept : goal.settle-requires-clause-kept
settle-requires-clause-kept c = λ h.
    enter_kept c.args.heap.now c.requires.unleaked c.as_slice.result.now c.args.args.now c.enter-done.result
    c.enter-done.new.heap c.enter-done.ensures.done
    (ap (vars_hold c.args.heap.now) c.as_slice.ensures ∙ sym c.enter_loses-lost.ensures ∙ h)
