use Rattle.std.proofs.Common.{◌≡◌, drop}
use Rattle.fore_base.specs.Stores.{var_of, write_from}
use Rattle.c_acts.proofs.paths.write_from.Given as goal

abbrev pub invariant-loop-other : goal.invariant-loop-other
invariant-loop-other l = write_from l.heap l.base l.field (drop l.other-index l.others) l.value
    ≡ write_from l.heap (var_of l.heap l.var) l.first l.others l.value
