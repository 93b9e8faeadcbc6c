use Rattle.std.proofs.Common.{◌≡◌, Some, None, map, sym, ap, ◌∙◌}
use Rattle.fore_base.specs.Stores.{dangle_in}
use Rattle.c_heap.specs.Rising.{position_in}
use Rattle.c_heap.proofs.CellLemmas.{placed, without_some, without_none}
use Rattle.c_heap.proofs.cells.end_cell.Goals as goal
use Rattle.c_heap.proofs.cells.end_cell.Goals.{in-Some, in_default}

pub returns : goal.returns
returns c =
    let position : c.position_of.result ≡ position_in c.args.cells.now c.args.number =
    rw c.as_slice.ensures at c.position_of.ensures.position in
    c.dangle_cells.ensures
    ∙ (elim c.match-position_of.branch [
      | in-Some w ↦ ap (map (dangle_in c.args.number)) (w.cells-is ∙ w.remove-ended.ensures.rest)
          ∙ sym
          (without_some c.args.number w.in-Some.at c.args.cells.now c.requires
          (placed c.args.number c.args.cells.now c.position_of.result (Some w.in-Some.at) position w.in-Some.is))
      | in_default w ↦ ap (map (dangle_in c.args.number)) w.cells-is
          ∙ sym
          (without_none c.args.number c.args.cells.now
          (placed c.args.number c.args.cells.now c.position_of.result None position w.in_default.is))
    ])
