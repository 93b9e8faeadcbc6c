use Rattle.std.proofs.Common.{arith}
use Rattle.c_machine.proofs.Walks.{walk_item}
use Rattle.c_machine.proofs.leaving.+end_blocks.Goals as goal

pub end_blocks-end_stmt-requires : goal.end_blocks-end_stmt-requires
end_blocks-end_stmt-requires t c = (
  omega (
    arith,
    walk_item c.args.stmts.now c.loop-stmt.stmt-index c.stmt-item.result c.loop-stmt-test.true c.stmt-item.is,
    c.decreases,
  ),
  tt,
)
