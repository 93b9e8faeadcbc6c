use Rattle.std.proofs.Common.{◌≡◌, ◌+◌, ◌≤◌, drop}
use Rattle.fore_base.specs.Marks.{marked_count}
use Rattle.ta_core.proofs.restricting.count_marked.Given as goal

abbrev pub invariant-loop-state : goal.invariant-loop-state
invariant-loop-state l = (l.count ≤ l.state) × (l.count + marked_count (drop l.state l.marks) ≡ marked_count l.marks)
