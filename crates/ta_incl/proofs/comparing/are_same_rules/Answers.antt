use Rattle.ta_incl.proofs.Equal.{same_more}
use Rattle.ta_incl.proofs.comparing.are_same_rules.Goals as goal

pub loop-place-preserved : goal.loop-place-preserved
loop-place-preserved c =
    same_more c.args.left.now c.args.right.now c.loop-place.place c.index-left-place.result c.loop-place-test.true
    c.index-left-place.is c.loop-place.invariant (c.is_at.ensures.0 c.if-not-is_at.false)
