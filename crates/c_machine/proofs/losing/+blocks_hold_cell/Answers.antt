use Rattle.std.proofs.Common.{arith}
use Rattle.c_machine.proofs.Walks.{walk_item}
use Rattle.c_machine.proofs.losing.+blocks_hold_cell.Goals as goal

pub blocks_hold_cell-stmt_holds_cell-requires : goal.blocks_hold_cell-stmt_holds_cell-requires
blocks_hold_cell-stmt_holds_cell-requires t c = (
  omega (
    arith,
    walk_item c.args.stmts.now c.loop-stmt.stmt-index c.stmt-item.result c.loop-stmt-test.true c.stmt-item.is,
    c.decreases,
  ),
  tt,
)
