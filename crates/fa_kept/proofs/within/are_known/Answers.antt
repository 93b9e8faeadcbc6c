use Rattle.std.proofs.Common.{◌<◌, length}
use Rattle.std.proofs.lemmas.List.{get_or_default}
use Rattle.fore_base.proofs.ListLemmas.{every_get}
use Rattle.fa_cover.proofs.Pairs.{pair_goes_on}
use Rattle.fa_kept.specs.Memos.{IsWithinAt}
use Rattle.fa_kept.proofs.within.are_known.Goals as goal

pub loop-place-preserved : goal.loop-place-preserved
loop-place-preserved c = λ pool agrees low.
    let right = c.in-Some-true.ensures pool agrees
    (every_get (λ n. n < length pool) c.args.narrow.now c.loop-place.place _ low c.loop-place-test.true) in
    pair_goes_on (IsWithinAt pool) c.args.narrow.now c.args.wide.now c.loop-place.place _ _ c.loop-place-test.true
    (get_or_default c.args.narrow.now c.loop-place.place _ _ c.loop-place-test.true)
    (get_or_default c.args.wide.now c.loop-place.place _ _ (rw (← c.requires) c.loop-place-test.true))
    (c.loop-place.invariant pool agrees low) (right.right.0 c.in-Some-true.field-0-test)
