use Rattle.fore_base.proofs.ListLemmas.{take_item, every_push}
use Rattle.ta_core.specs.Auto.{IsRanked}
use Rattle.fa_sample.proofs.Places.{choice_push}
use Rattle.fa_sample.proofs.picking.pick_trees.Goals as goal

pub loop-auto-preserved : goal.loop-auto-preserved
loop-auto-preserved c =
    let e = take_item c.args.autos.now c.loop-auto.auto-index c.auto-item.result c.loop-auto-test.true c.auto-item.is in
    rw (e, c.in_ok-push.ensures.ok) (
      choice_push _ _ _ _ c.loop-auto.invariant.0 c.in_ok-tree.ensures.tree,
      every_push IsRanked _ _ c.loop-auto.invariant.1 c.in_ok-tree.ensures.ranked,
    )
