use Rattle.std.proofs.Common.{◌≡◌}
use Rattle.std.specs.Vec.{vec_len}
use Rattle.c_machine.specs.Pending.{pending, left_round}
use Rattle.c_machine.proofs.leaving.drop_round.Given as goal

abbrev pub invariant-loop-item : goal.invariant-loop-item
invariant-loop-item l = left_round l.goes_on (pending l.stack.items)
    ≡ left_round l.goes_on (pending l.initial.stack.items)

abbrev pub decreases-loop-item : goal.decreases-loop-item
decreases-loop-item l = vec_len l.stack
