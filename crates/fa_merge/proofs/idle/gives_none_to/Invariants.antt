use Rattle.std.proofs.Common.{take}
use Rattle.fa_merge.specs.inner.Idle.{GivesNoneTo}
use Rattle.fa_merge.proofs.idle.gives_none_to.Given as goal

abbrev pub invariant-loop-mark : goal.invariant-loop-mark
invariant-loop-mark l = GivesNoneTo l.root (take l.mark-index l.marks)
