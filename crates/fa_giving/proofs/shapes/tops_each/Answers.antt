use Rattle.std.proofs.Common.{take}
use Rattle.fore_base.proofs.ListLemmas.{take_item, paired_push}
use Rattle.fa_giving.specs.inner.Shaped.{AreTopStructs}
use Rattle.fa_giving.proofs.shapes.tops_each.Goals as goal

pub loop-auto-preserved : goal.loop-auto-preserved
loop-auto-preserved c =
    let e = take_item c.args.autos.now c.loop-auto.auto-index c.auto-item.result c.loop-auto-test.true c.auto-item.is in
    rw (c.in_ok-push.ensures.ok, e)
    (paired_push AreTopStructs (take c.loop-auto.auto-index c.args.autos.now) c.loop-auto.all c.auto-item.result
    c.in_ok-own.own c.loop-auto.invariant c.in_ok-own.ensures)
