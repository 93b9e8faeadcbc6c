use Rattle.std.proofs.Common.{◌≡◌, ◌++◌, flat_map, take}
use Rattle.fa_print.specs.Texts.{cell_line}
use Rattle.fa_print.proofs.stores.put_cells.Given as goal

abbrev pub invariant-loop-cell : goal.invariant-loop-cell
invariant-loop-cell l = l.text ≡ l.initial.text ++ flat_map (cell_line l.structs) (take l.cell-index l.cells)
