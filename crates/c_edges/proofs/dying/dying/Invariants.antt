use Rattle.std.proofs.Common.{◌≡◌, ◌≤◌, drop, length}
use Rattle.c_types.specs.Control.{ptr_vars, datum_vars}
use Rattle.c_edges.proofs.dying.dying.Given as goal

abbrev pub invariant-loop-at : goal.invariant-loop-at
invariant-loop-at l = record {
  within : l.at ≤ length l.vars;
  ptrs : l.ptrs ≡ ptr_vars (drop l.at l.vars);
  datums : l.datums ≡ datum_vars (drop l.at l.vars);
}
