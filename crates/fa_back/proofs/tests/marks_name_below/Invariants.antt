use Rattle.std.proofs.Common.{take}
use Rattle.fore_base.specs.Lists.{Every}
use Rattle.fa_back.specs.Reached.{NamesBelow}
use Rattle.fa_back.proofs.tests.marks_name_below.Given as goal

abbrev pub invariant-loop-mark : goal.invariant-loop-mark
invariant-loop-mark l = Every (NamesBelow l.count) (take l.mark-index l.marks)
