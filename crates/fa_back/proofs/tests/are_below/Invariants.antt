use Rattle.std.proofs.Common.{take}
use Rattle.fa_core.specs.References.{AllBelow}
use Rattle.fa_back.proofs.tests.are_below.Given as goal

abbrev pub invariant-loop-number : goal.invariant-loop-number
invariant-loop-number l = AllBelow l.count (take l.number-index l.numbers)
