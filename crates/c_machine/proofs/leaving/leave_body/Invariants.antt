use Rattle.std.proofs.Common.{◌≡◌}
use Rattle.std.specs.Vec.{vec_len}
use Rattle.c_types.specs.Control.{from_exit}
use Rattle.c_machine.specs.Pending.{pending}
use Rattle.c_machine.proofs.leaving.leave_body.Given as goal

abbrev pub invariant-loop-entry : goal.invariant-loop-entry
invariant-loop-entry l = from_exit (pending l.stack.items) ≡ from_exit (pending l.initial.stack.items)

abbrev pub decreases-loop-entry : goal.decreases-loop-entry
decreases-loop-entry l = vec_len l.stack
