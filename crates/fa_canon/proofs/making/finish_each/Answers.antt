use Rattle.std.proofs.Common.{[], ◌∷◌, take}
use Rattle.fore_base.proofs.ListLemmas.{every_at, take_item}
use Rattle.fa_canon.specs.inner.Finished.{CanFinish, IsFinished}
use Rattle.fa_canon.proofs.Finishing.{regrouped_step}
use Rattle.fa_canon.proofs.Splits.{split_both}
use Rattle.fa_canon.proofs.making.finish_each.Goals as goal

pub finish-requires-clause-can : goal.finish-requires-clause-can
finish-requires-clause-can g c κs within =
    let less = rw c.as_slice-forest-items.ensures at c.loop-forest-test.true in
    let is = rw c.as_slice-forest-items.ensures at c.forest-item.is in
    every_at (CanFinish c.args.count) c.args.forests.now c.loop-forest.forest-index c.forest-item.result c.requires.can
    less is

pub loop-forest-preserved : goal.loop-forest-preserved
loop-forest-preserved g c =
    let less = rw c.as_slice-forest-items.ensures at c.loop-forest-test.true in
    let is = rw c.as_slice-forest-items.ensures at c.forest-item.is in
    let more = take_item c.args.forests.now c.loop-forest.forest-index c.forest-item.result less is in
    rw (c.in_ok-push.ensures.ok, more)
    (split_both IsFinished (take c.loop-forest.forest-index c.args.forests.now) c.loop-forest.made
    (c.in_ok-finished.finished ∷ []) c.forest-item.result c.loop-forest.invariant
    (regrouped_step IsFinished c.forest-item.result c.in_ok-finished.finished c.in_ok-finished.ensures.regrouped
    c.in_ok-finished.ensures.finished))
