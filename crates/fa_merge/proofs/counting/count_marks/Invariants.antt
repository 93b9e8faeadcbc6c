use Rattle.std.proofs.Common.{◌≡◌, drop}
use Rattle.fa_merge.specs.Counts.{marks_count}
use Rattle.fa_merge.proofs.counting.count_marks.Given as goal

abbrev pub invariant-loop-mark : goal.invariant-loop-mark
invariant-loop-mark l = marks_count l.root (drop l.mark-index l.marks) ≡ marks_count l.root l.marks
