use Rattle.std.proofs.Common.{◌≡◌, ◌+◌, drop}
use Rattle.c_machine.specs.inner.Losing.{held_among}
use Rattle.c_machine.proofs.Walks.{walk_stmt, walk_among}
use Rattle.c_machine.proofs.losing.+blocks_hold_cell.Given as goal

abbrev pub invariant-blocks_hold_cell-loop-stmt : goal.invariant-blocks_hold_cell-loop-stmt
invariant-blocks_hold_cell-loop-stmt l = held_among l.heap.vars (drop l.stmt-index l.stmts)
    ≡ held_among l.heap.vars l.stmts

abbrev pub decreases-blocks_hold_cell : goal.decreases-blocks_hold_cell
decreases-blocks_hold_cell l = walk_among l.stmts.now + 1

abbrev pub decreases-stmt_holds_cell : goal.decreases-stmt_holds_cell
decreases-stmt_holds_cell l = walk_stmt l.stmt.now
