use Rattle.std.proofs.Common.{take}
use Rattle.fix_successors.specs.inner.Settling.{AreAllSettled}
use Rattle.fix_successors.proofs.settling.settle_all.Given as goal

abbrev pub invariant-loop-middle : goal.invariant-loop-middle
invariant-loop-middle g l = AreAllSettled l.task.table l.task.graph l.task.height (take l.middle-index l.cases) l.states
