use Rattle.ta_core.specs.Simulations.{KeepsRoots}
use Rattle.ta_sim.specs.Relations.{AreSquare, Relates}
use Rattle.ta_sim.specs.inner.Raising.{IncludesUpward}
use Rattle.ta_sim.specs.inner.Refining.{pair_count}
use Rattle.ta_sim.proofs.upward.raised.Given as goal

abbrev pub invariant-rounds : goal.invariant-rounds
invariant-rounds g l = AreSquare l.auto'.states l.rows.items × AreSquare l.auto'.states l.next.items
    × KeepsRoots l.auto' (Relates l.rows.items) × IncludesUpward l.auto' l.down l.rows.items

abbrev pub decreases-rounds : goal.decreases-rounds
decreases-rounds g l = pair_count l.rows.items
