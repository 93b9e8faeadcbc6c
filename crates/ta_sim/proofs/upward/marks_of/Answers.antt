use Rattle.ta_sim.proofs.Raised.{roots_more}
use Rattle.ta_sim.proofs.upward.marks_of.Goals as goal

pub loop-state-preserved : goal.loop-state-preserved
loop-state-preserved c =
    rw c.mark.ensures
    (roots_more c.args.count c.args.states.now c.loop-state.state-index c.loop-state.marks c.requires
    c.loop-state-test.true c.loop-state.invariant)
