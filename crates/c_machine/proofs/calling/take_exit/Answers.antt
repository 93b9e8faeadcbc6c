use Rattle.std.proofs.Common.{sym, ◌∙◌}
use Rattle.c_machine.proofs.Kept.{exit_kept}
use Rattle.c_machine.proofs.calling.take_exit.Goals as goal

pub settle-requires-clause-kept : goal.settle-requires-clause-kept
settle-requires-clause-kept c = λ h.
    exit_kept c.args.heap.now c.requires.unleaked c.args.func.now.result c.args.func.now.params c.args.to.now
    c.exit-done.result c.exit-done.new.heap c.exit-done.ensures.done (sym c.exit_loses-lost.ensures ∙ h)
