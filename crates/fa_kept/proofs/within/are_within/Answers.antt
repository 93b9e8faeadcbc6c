use Rattle.std.proofs.lemmas.List.{get_or_default}
use Rattle.fa_cover.proofs.Pairs.{pair_goes_on}
use Rattle.fa_kept.specs.Memos.{IsWithinAt}
use Rattle.fa_kept.proofs.within.are_within.Goals as goal

pub loop-place-preserved : goal.loop-place-preserved
loop-place-preserved c = (
  c.in_ok-is_within.ensures.found,
  pair_goes_on (IsWithinAt c.args.pool.now) c.args.narrow.now c.args.wide.now c.loop-place.place _ _
      c.loop-place-test.true (get_or_default c.args.narrow.now c.loop-place.place _ _ c.loop-place-test.true)
      (get_or_default c.args.wide.now c.loop-place.place _ _ (rw (← c.requires.long) c.loop-place-test.true))
      c.loop-place.invariant.1 (c.in_ok-is_within.ensures.right.right.0 c.if-not-branch.false),
)
