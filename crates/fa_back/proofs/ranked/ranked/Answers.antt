use Rattle.fore_base.proofs.ListLemmas.{take_item, every_push}
use Rattle.ta_core.specs.Auto.{IsRanked}
use Rattle.fa_back.proofs.ranked.ranked.Goals as goal

pub loop-auto-preserved : goal.loop-auto-preserved
loop-auto-preserved c =
    let e = take_item c.args.autos.now c.loop-auto.auto-index c.auto-item.result c.loop-auto-test.true c.auto-item.is in
    rw (e) (every_push IsRanked _ _ c.loop-auto.invariant c.known.ensures)
