use Rattle.std.proofs.Common.{map}
use Rattle.ta_core.specs.inner.Tasks.{IsUnderway, work}
use Rattle.ta_incl.specs.inner.Tasks.{seen, IsPlace, IsOver, GivesTree}
use Rattle.ta_incl.proofs.Tasks.{weight}
use Rattle.ta_incl.proofs.growing.tree_at.Given as goal

abbrev pub invariant-tasks : goal.invariant-tasks
invariant-tasks l = IsUnderway (IsPlace l.found) (IsOver l.found) (GivesTree l.rules l.found) l.place (map seen l.tasks)
    l.trees

abbrev pub decreases-tasks : goal.decreases-tasks
decreases-tasks l = work (weight l.found) (map seen l.tasks)
