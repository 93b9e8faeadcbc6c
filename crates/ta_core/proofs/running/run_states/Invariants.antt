use Rattle.std.proofs.Common.{map}
use Rattle.ta_core.specs.Language.{nodes}
use Rattle.ta_core.specs.Tops.{AreStatesOf}
use Rattle.ta_core.specs.inner.Running.{seen, IsTree, IsOver}
use Rattle.ta_core.specs.inner.Tasks.{IsUnderway, work}
use Rattle.ta_core.proofs.running.run_states.Given as goal

abbrev pub invariant-tasks : goal.invariant-tasks
invariant-tasks l = IsUnderway IsTree IsOver (AreStatesOf l.rules l.states) l.tree (map seen l.tasks) l.sets

abbrev pub decreases-tasks : goal.decreases-tasks
decreases-tasks l = work nodes (map seen l.tasks)
