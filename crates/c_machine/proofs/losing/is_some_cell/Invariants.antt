use Rattle.std.proofs.Common.{◌≡◌, drop, map}
use Rattle.c_types.specs.Losses.{is_cell}
use Rattle.c_machine.specs.inner.Losing.{some_true}
use Rattle.c_machine.proofs.losing.is_some_cell.Given as goal

abbrev pub invariant-loop-value : goal.invariant-loop-value
invariant-loop-value l = some_true (map is_cell (drop l.value-index l.values)) ≡ some_true (map is_cell l.values)
