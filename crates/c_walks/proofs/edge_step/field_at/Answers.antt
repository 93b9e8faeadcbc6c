use Rattle.std.proofs.Common.{Some, None, sym, ◌∙◌}
use Rattle.c_heap.proofs.CellLemmas.{placed}
use Rattle.c_walks.proofs.EdgeLemmas.{field_some, field_none}
use Rattle.c_walks.proofs.edge_step.field_at.Goals as goal

pub returns-in-Some : goal.returns-in-Some
returns-in-Some c =
    c.item_at.ensures
    ∙ sym (field_some c.args.number c.args.field c.in-Some.at c.args.cells.now c.index-cells-at.result
    (placed c.args.number c.args.cells.now c.position_of.result (Some c.in-Some.at) c.position_of.ensures.position
    c.in-Some.is))

pub returns-in-None : goal.returns-in-None
returns-in-None c =
    sym
    (field_none c.args.number c.args.field c.args.cells.now
    (placed c.args.number c.args.cells.now c.position_of.result None c.position_of.ensures.position c.in-None.is))
