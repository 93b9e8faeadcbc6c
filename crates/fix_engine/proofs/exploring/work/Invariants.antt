use Rattle.std.proofs.Common.{◌-◌}
use Rattle.fix_engine.specs.inner.Taking.{IsFront}
use Rattle.fix_engine.proofs.exploring.work.Given as goal

abbrev pub invariant-rounds : goal.invariant-rounds
invariant-rounds g l = IsFront l.task.table l.task.graph l.task.height l.nodes l.at l.task.budget

abbrev pub decreases-rounds : goal.decreases-rounds
decreases-rounds g l = l.task.budget - l.at
