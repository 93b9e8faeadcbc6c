use Rattle.ta_sim.specs.Relations.{AreSquare}
use Rattle.ta_sim.specs.inner.Refining.{Includes, pair_count}
use Rattle.ta_sim.proofs.downward.refined.Given as goal

abbrev pub invariant-rounds : goal.invariant-rounds
invariant-rounds g l = AreSquare l.states l.rows.items × AreSquare l.states l.next.items
    × Includes l.states l.rules l.rows.items

abbrev pub decreases-rounds : goal.decreases-rounds
decreases-rounds g l = pair_count l.rows.items
