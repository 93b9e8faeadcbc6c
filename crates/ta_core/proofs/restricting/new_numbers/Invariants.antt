use Rattle.std.proofs.Common.{◌≡◌, ◌++◌, ◌≤◌, drop}
use Rattle.ta_core.specs.inner.Restricted.{ranks}
use Rattle.ta_core.proofs.restricting.new_numbers.Given as goal

abbrev pub invariant-loop-state : goal.invariant-loop-state
invariant-loop-state l = (l.next ≤ l.state) × (l.numbers ++ ranks l.next (drop l.state l.marks) ≡ ranks 0 l.marks)
