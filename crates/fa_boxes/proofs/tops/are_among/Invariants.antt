use Rattle.std.proofs.Common.{take}
use Rattle.fa_boxes.specs.inner.TopRules.{AreAmong}
use Rattle.fa_boxes.proofs.tops.are_among.Given as goal

abbrev pub invariant-loop-number : goal.invariant-loop-number
invariant-loop-number l = AreAmong (take l.number-index l.numbers) l.others
