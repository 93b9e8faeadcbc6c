use Rattle.std.proofs.Common.{◌≡◌, ◌≢◌}
use Rattle.c_machine.specs.declared.items.Front.TheVariants.{Shut}
use Rattle.c_machine.specs.Pending.{left_of, asked_size}
use Rattle.c_machine.proofs.items.Control.open_test.Given as goal

abbrev pub invariant-loop-self : goal.invariant-loop-self
invariant-loop-self l = (left_of l.self ≡ left_of l.initial.self) × (l.self.front ≢ Shut)

abbrev pub decreases-loop-self : goal.decreases-loop-self
decreases-loop-self l = asked_size l.self.front
