use Rattle.std.proofs.Common.{sym, ◌∙◌}
use Rattle.c_machine.proofs.Kept.{leave_kept}
use Rattle.c_machine.proofs.calling.take_leave.Goals as goal

pub settle-requires-clause-kept : goal.settle-requires-clause-kept
settle-requires-clause-kept c = λ h.
    leave_kept c.args.heap.now c.requires.unleaked c.args.func.now.result c.args.func.now.locals c.args.value.now
    c.leave-done.result c.leave-done.new.heap c.leave-done.ensures.done (sym c.leave_loses-lost.ensures ∙ h)
