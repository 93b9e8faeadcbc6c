use Rattle.fore_base.proofs.ListLemmas.{every_push, paired_push, take_item}
use Rattle.fa_order.specs.inner.Reduced.{IsReduction}
use Rattle.fa_order.proofs.reducing.reduced_autos.Goals as goal

pub loop-auto-preserved : goal.loop-auto-preserved
loop-auto-preserved g c =
    let t = take_item c.args.autos.now c.loop-auto.auto-index c.auto-item.result c.loop-auto-test.true c.auto-item.is in
    let i = c.loop-auto.invariant in
    rw (t, c.in_ok-push.ensures.ok)
    (paired_push IsReduction _ _ _ _ i.0 c.in_ok-reduced.ensures, every_push _ _ _ i.1 c.known.ensures)
