use Rattle.std.proofs.Common.{take}
use Rattle.fa_merge.specs.inner.Idle.{GivesNone}
use Rattle.fa_merge.proofs.idle.gives_none.Given as goal

abbrev pub invariant-loop-mark : goal.invariant-loop-mark
invariant-loop-mark l = GivesNone (take l.mark-index l.marks)
