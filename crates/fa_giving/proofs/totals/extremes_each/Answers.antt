use Rattle.std.proofs.Common.{take}
use Rattle.ta_core.specs.Language.{IsTrim}
use Rattle.fore_base.proofs.ListLemmas.{every_at, take_item, paired_push}
use Rattle.fa_giving.specs.inner.Totals.{AreExtremes}
use Rattle.fa_giving.proofs.totals.extremes_each.Goals as goal

pub own_extremes-requires-clause-trim : goal.own_extremes-requires-clause-trim
own_extremes-requires-clause-trim c =
    every_at IsTrim c.args.autos.now c.loop-auto.auto-index c.auto-item.result c.requires.trim c.loop-auto-test.true
    c.auto-item.is

pub loop-auto-preserved : goal.loop-auto-preserved
loop-auto-preserved c =
    let R = AreExtremes c.args.boxes.now c.args.root c.args.field in
    let e = take_item c.args.autos.now c.loop-auto.auto-index c.auto-item.result c.loop-auto-test.true c.auto-item.is in
    rw (c.in_ok-push.ensures.ok, e)
    (paired_push R (take c.loop-auto.auto-index c.args.autos.now) c.loop-auto.all c.auto-item.result c.in_ok-own.own
    c.loop-auto.invariant c.in_ok-own.ensures)
