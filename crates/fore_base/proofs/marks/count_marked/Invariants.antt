use Rattle.std.proofs.Common.{◌≡◌, ◌≤◌, ◌+◌, drop}
use Rattle.fore_base.specs.Marks.{marked_count}
use Rattle.fore_base.proofs.marks.count_marked.Given as goal

abbrev pub invariant-loop-mark : goal.invariant-loop-mark
invariant-loop-mark l = (l.count ≤ l.mark-index)
    × (l.count + marked_count (drop l.mark-index l.marks) ≡ marked_count l.marks)
