use Rattle.fix_core.proofs.Holding.{one_more_forest}
use Rattle.fix_core.proofs.alike.forests_of.Goals as goal

pub loop-number-preserved : goal.loop-number-preserved
loop-number-preserved c =
    let more = one_more_forest c.args.nodes.now c.args.numbers.now c.loop-number.number-index _ c.loop-number.forests
    c.at.result.now c.in_ok-forest.forest c.loop-number-test.true c.loop-number.invariant c.at.ensures
    c.in_ok-forest.ensures in
    rw (← c.in_ok-push.ensures.ok) at more
