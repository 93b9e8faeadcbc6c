use Rattle.std.proofs.Common.{map}
use Rattle.ta_core.specs.inner.Growing.{seen, IsSized, IsOver}
use Rattle.ta_core.specs.inner.Sizes.{size_at, number, IsTreeAt}
use Rattle.ta_core.specs.inner.Tasks.{IsUnderway, work}
use Rattle.ta_core.proofs.growing.tree_at.Given as goal

abbrev pub invariant-tasks : goal.invariant-tasks
invariant-tasks l = IsUnderway (IsSized l.sizes) (IsOver l.rules l.sizes) (IsTreeAt l.rules l.sizes) l.state
    (map seen l.tasks) l.trees

abbrev pub decreases-tasks : goal.decreases-tasks
decreases-tasks l = work (λ q. number (size_at l.sizes q)) (map seen l.tasks)
