use Rattle.std.proofs.Common.{refl}
use Rattle.fore_base.proofs.ListLemmas.{paired_push, take_item}
use Rattle.ta_incl.specs.inner.Founds.{IsPairOf}
use Rattle.ta_incl.proofs.thinning.pairs_of.Goals as goal

pub loop-pair-preserved : goal.loop-pair-preserved
loop-pair-preserved c =
    let e = take_item c.args.found.now c.loop-pair.pair-index c.pair-item.result c.loop-pair-test.true c.pair-item.is in
    let s = rw c.as_slice.ensures at c.in_ok-set.ensures in
    rw (e, c.in_ok-push.ensures.ok) (paired_push IsPairOf _ _ _ _ c.loop-pair.invariant (refl, s))
