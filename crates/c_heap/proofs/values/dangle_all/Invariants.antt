use Rattle.std.proofs.Common.{◌≡◌, ◌++◌, map, take, drop}
use Rattle.fore_base.specs.Stores.{dangle}
use Rattle.c_heap.proofs.values.dangle_all.Given as goal

abbrev pub invariant-loop-i : goal.invariant-loop-i
invariant-loop-i l = l.values ≡ map (dangle l.number) (take l.i l.initial.values) ++ drop l.i l.initial.values
