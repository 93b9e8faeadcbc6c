use Rattle.fa_sample.proofs.Sampled.{picked_next}
use Rattle.fa_sample.proofs.picking.pick_insides.Goals as goal

pub loop-number-preserved : goal.loop-number-preserved
loop-number-preserved c = rw c.in_ok-push.ensures.ok
    (picked_next c.args.table.now.defs c.loop-number.boxes c.loop-number.number c.in_ok-trees.trees
    (rw c.len-number-end.ensures at c.loop-number-test.true) c.loop-number.invariant c.in_ok-trees.ensures)
