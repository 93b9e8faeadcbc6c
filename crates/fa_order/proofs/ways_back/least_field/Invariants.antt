use Rattle.std.proofs.Common.{take}
use Rattle.fa_order.specs.inner.Backs.{IsLeastIn, fields_to}
use Rattle.fa_order.proofs.ways_back.least_field.Given as goal

abbrev pub invariant-loop-mark : goal.invariant-loop-mark
invariant-loop-mark l = IsLeastIn (fields_to l.root (take l.mark-index l.marks)) l.least
