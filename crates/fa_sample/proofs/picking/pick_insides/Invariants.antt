use Rattle.std.proofs.Common.{take}
use Rattle.fa_sample.specs.inner.Picked.{ArePicked}
use Rattle.fa_sample.proofs.picking.pick_insides.Given as goal

abbrev pub invariant-loop-number : goal.invariant-loop-number
invariant-loop-number l = ArePicked (take l.number l.table.defs) l.boxes
