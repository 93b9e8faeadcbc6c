use Rattle.std.proofs.Common.{◌≡◌}
use Rattle.c_machine.specs.Pending.{left_of, stack_weight, shut_weight}
use Rattle.c_machine.proofs.items.Control.open_stack.Given as goal

abbrev pub invariant-loop-self : goal.invariant-loop-self
invariant-loop-self l = left_of l.self ≡ left_of l.initial.self

abbrev pub decreases-loop-self : goal.decreases-loop-self
decreases-loop-self l = shut_weight l.self.front (stack_weight l.self.stack.items)
