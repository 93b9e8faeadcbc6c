use Rattle.fore_base.proofs.ListLemmas.{take_item}
use Rattle.ta_core.proofs.Rounding.{one_more, one_same}
use Rattle.ta_core.proofs.rounds.take_each.Goals as goal
use Rattle.ta_core.proofs.rounds.take_each.Goals.{then-branch, else-branch}

pub loop-item-preserved : goal.loop-item-preserved
loop-item-preserved g c =
    let left = g.K.Taker.left c.args.taker.now in
    let taken = g.K.Taker.is_taken c.args.taker.now in
    let e = take_item c.args.items.now c.loop-item.item-index c.item-item.result c.loop-item-test.true c.item-item.is in
    let before = c.loop-item.invariant.changes in
    let step = c.in_ok-take.ensures.changes in
    elim c.if-branch.branch [
      | then-branch w ↦ record {
        keeps = c.in_ok-take.ensures.keeps;
        changes = rw w.changed-is
            (one_more left taken _ _ _ _ c.loop-item.changed before (rw w.if-branch.true at step));
      }
      | else-branch w ↦ record {
        keeps = c.in_ok-take.ensures.keeps;
        changes = rw (w.changed-is, e)
            (one_same left taken _ _ _ _ c.loop-item.changed c.item-item.result before (rw w.if-branch.false at step));
      }
    ]
