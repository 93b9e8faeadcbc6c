use Rattle.fore_base.proofs.ListLemmas.{every_at, every_push, in_at, paired_push, take_item}
use Rattle.ta_core.specs.Language.{IsTrim}
use Rattle.fa_boxes.proofs.signing.signs.Goals as goal

pub signs_of-requires : goal.signs_of-requires
signs_of-requires c = every_at IsTrim c.args.autos.now c.loop-auto.auto-index c.auto-item.result c.requires
    c.loop-auto-test.true c.auto-item.is

pub returns-in-None-clause-signs : goal.returns-in-None-clause-signs
returns-in-None-clause-signs c =
    let l = rw c.in-None.is at c.in_ok-signs_of.ensures in (
      c.auto-item.result,
      in_at c.args.autos.now c.loop-auto.auto-index c.auto-item.result c.loop-auto-test.true
          c.auto-item.is,
      l,
    )

pub loop-auto-preserved : goal.loop-auto-preserved
loop-auto-preserved c =
    let a = c.auto-item.result in
    let t = take_item c.args.autos.now c.loop-auto.auto-index a c.loop-auto-test.true c.auto-item.is in
    let p = rw c.in-Some.is at c.in_ok-signs_of.ensures in
    let i = c.loop-auto.invariant in
    rw (t, c.in_ok-push-in-Some.ensures.ok) (
      paired_push _ _ _ _ _ i.0 p.0,
      every_push _ _ a i.1 p.1,
      every_push _ _ _ i.2 p.2,
    )
