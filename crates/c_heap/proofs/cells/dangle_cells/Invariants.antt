use Rattle.std.proofs.Common.{◌≡◌, ◌++◌, map, take, drop}
use Rattle.fore_base.specs.Stores.{dangle_in}
use Rattle.c_heap.proofs.cells.dangle_cells.Given as goal

abbrev pub invariant-loop-i : goal.invariant-loop-i
invariant-loop-i l = l.cells ≡ map (dangle_in l.number) (take l.i l.initial.cells) ++ drop l.i l.initial.cells
