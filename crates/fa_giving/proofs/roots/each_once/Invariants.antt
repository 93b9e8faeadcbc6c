use Rattle.std.proofs.Common.{take}
use Rattle.fa_giving.specs.inner.Totals.{AreIn}
use Rattle.fa_giving.proofs.roots.each_once.Given as goal

abbrev pub invariant-loop-number : goal.invariant-loop-number
invariant-loop-number l = AreIn l.once (take l.number-index l.numbers)
