use Rattle.std.proofs.Common.{◌≡◌, ◌+◌, drop}
use Rattle.c_heap.specs.Sizes.{IsNoLarger}
use Rattle.c_machine.specs.Pending.{ends_among}
use Rattle.c_machine.proofs.Walks.{walk_stmt, walk_among}
use Rattle.c_machine.proofs.leaving.+end_blocks.Given as goal

abbrev pub invariant-end_blocks-loop-stmt : goal.invariant-end_blocks-loop-stmt
invariant-end_blocks-loop-stmt l = record {
  left : ends_among (drop l.stmt-index l.stmts) l.heap ≡ ends_among l.stmts l.initial.heap;
  keeps : IsNoLarger l.initial.heap l.heap;
}

abbrev pub decreases-end_blocks : goal.decreases-end_blocks
decreases-end_blocks l = walk_among l.stmts.now + 1

abbrev pub decreases-end_stmt : goal.decreases-end_stmt
decreases-end_stmt l = walk_stmt l.stmt.now
