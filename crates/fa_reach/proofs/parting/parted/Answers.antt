use Rattle.std.proofs.Common.{◌+◌, ap}
use Rattle.fore_base.proofs.ListLemmas.{take_item}
use Rattle.fa_reach.proofs.Signed.{parted_next}
use Rattle.fa_reach.proofs.parting.parted.Goals as goal

pub loop-list-preserved : goal.loop-list-preserved
loop-list-preserved c =
    let h = rw (c.as_slice.ensures, c.loop-list.invariant.0) at c.in_ok-parts.ensures in (
      ap (λ n. n + 1) c.loop-list.invariant.0,
      rw (
        take_item c.args.lists.now c.loop-list.list-index c.list-item.result c.loop-list-test.true c.list-item.is,
        c.in_ok-push.ensures.ok,
      )
          (parted_next c.args.lists.now c.loop-list.all c.loop-list.list-index c.list-item.result c.in_ok-parts.parts
          c.loop-list-test.true c.loop-list.invariant.1 h),
    )
