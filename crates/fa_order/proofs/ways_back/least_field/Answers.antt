use Rattle.fa_order.proofs.LeastFields.{fields_more, fields_same}
use Rattle.fa_order.proofs.ways_back.least_field.Goals as goal
use Rattle.fa_order.proofs.ways_back.least_field.Goals.{then-mark-root, else-mark-root}

pub loop-mark-preserved : goal.loop-mark-preserved
loop-mark-preserved c = elim c.if-mark-root.branch [
  | then-mark-root w ↦
      rw w.least-is
      (fields_more c.args.root c.args.marks.now c.loop-mark.mark-index c.mark-item.result c.loop-mark-test.true
      c.mark-item.is w.if-mark-root.true _
      (rw w.as_slice.ensures at (w.least_with-least.ensures _ c.loop-mark.invariant)))
  | else-mark-root w ↦
      rw w.least-is
      (fields_same c.args.root c.args.marks.now c.loop-mark.mark-index c.mark-item.result c.loop-mark-test.true
      c.mark-item.is w.if-mark-root.false _ c.loop-mark.invariant)
]
