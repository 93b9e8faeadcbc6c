use Rattle.std.proofs.Common.{◌≡◌, drop}
use Rattle.c_types.specs.Losses.{hold_cell}
use Rattle.c_machine.proofs.losing.hold_cell.Given as goal

abbrev pub invariant-loop-var : goal.invariant-loop-var
invariant-loop-var l = hold_cell l.heap.vars (drop l.var-index l.vars) ≡ hold_cell l.heap.vars l.vars
