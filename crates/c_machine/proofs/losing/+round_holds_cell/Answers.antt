use Rattle.std.proofs.Common.{◌||◌, sym, ap, ◌∙◌}
use Rattle.c_types.specs.Control.{closed_ptrs}
use Rattle.c_types.specs.Losses.{hold_cell}
use Rattle.c_machine.specs.Pending.{pending}
use Rattle.c_machine.proofs.Holding.{round_block}
use Rattle.c_machine.proofs.losing.+round_holds_cell.Goals as goal

pub returns-then-blocks_hold_cell : goal.returns-then-blocks_hold_cell
returns-then-blocks_hold_cell t c =
    let vs = c.args.heap.now.vars in
    let others = hold_cell vs (closed_ptrs (pending c.in-Some.others.now)) in
    c.if-blocks_hold_cell.true
    ∙ ap (λ b. b || others) (sym c.if-blocks_hold_cell.true ∙ c.blocks_hold_cell.ensures)
    ∙ sym
    (round_block vs c.in-Some.others.now c.args.stack.now c.in-Some.item.now c.in-Block.body
    c.in-Some.ensures.cases.0 c.in-Block.is)

pub returns-else-blocks_hold_cell : goal.returns-else-blocks_hold_cell
returns-else-blocks_hold_cell t c =
    let vs = c.args.heap.now.vars in
    let others = hold_cell vs (closed_ptrs (pending c.in-Some.others.now)) in
    c.round_holds_cell.ensures
    ∙ ap (λ b. b || others) (sym c.if-blocks_hold_cell.false ∙ c.blocks_hold_cell.ensures)
    ∙ sym
    (round_block vs c.in-Some.others.now c.args.stack.now c.in-Some.item.now c.in-Block.body
    c.in-Some.ensures.cases.0 c.in-Block.is)
