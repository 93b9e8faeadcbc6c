use Rattle.std.proofs.Common.{◌≡◌}
use Rattle.std.specs.Vec.{vec_len}
use Rattle.c_heap.specs.Sizes.{IsNoLarger}
use Rattle.c_machine.specs.Pending.{pending, leaving, left_round}
use Rattle.c_machine.proofs.leaving.leave_round.Given as goal

abbrev pub invariant-loop-item : goal.invariant-loop-item
invariant-loop-item l = record {
  store : leaving (pending l.stack.items) l.heap ≡ leaving (pending l.initial.stack.items) l.initial.heap;
  items : left_round l.goes_on (pending l.stack.items) ≡ left_round l.goes_on (pending l.initial.stack.items);
  keeps : IsNoLarger l.initial.heap l.heap;
}

abbrev pub decreases-loop-item : goal.decreases-loop-item
decreases-loop-item l = vec_len l.stack
