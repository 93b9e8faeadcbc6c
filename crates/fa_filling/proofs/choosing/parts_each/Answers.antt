use Rattle.fore_base.proofs.ListLemmas.{in_at, take_item}
use Rattle.fa_filling.proofs.Partition.{parts_push}
use Rattle.fa_filling.proofs.choosing.parts_each.Goals as goal

pub returns-in-None : goal.returns-in-None
returns-in-None c =
    let l = rw c.in-None.is at c.in_ok-parts.ensures in (
      c.auto-item.result,
      in_at c.args.autos.now c.loop-auto.auto-index c.auto-item.result c.loop-auto-test.true
          c.auto-item.is,
      l,
    )

pub loop-auto-preserved : goal.loop-auto-preserved
loop-auto-preserved c =
    let t = take_item c.args.autos.now c.loop-auto.auto-index c.auto-item.result c.loop-auto-test.true c.auto-item.is in
    let p = rw c.in-Some.is at c.in_ok-parts.ensures in
    rw (t, c.in_ok-push-in-Some.ensures.ok) (parts_push _ _ c.auto-item.result _ c.loop-auto.invariant p)
