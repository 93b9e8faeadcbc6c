use Rattle.std.proofs.Common.{take}
use Rattle.fore_base.specs.Lists.{Paired}
use Rattle.fix_successors.specs.inner.Settling.{IsAbstracted}
use Rattle.fix_successors.proofs.settling.abstracted_states.Given as goal

abbrev pub invariant-loop-group : goal.invariant-loop-group
invariant-loop-group g l =
    Paired (IsAbstracted l.task.table l.task.graph l.task.height l.middle l.folds)
    (take l.group-index l.groups) l.states
