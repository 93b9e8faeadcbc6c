use Rattle.std.proofs.Common.{◌≤◌, drop, length}
use Rattle.fix_successors.specs.Exits.{Rises}
use Rattle.fix_successors.specs.Images.{edge_numbers}
use Rattle.fix_engine.specs.inner.Taking.{IsStage, Grows}
use Rattle.fix_engine.proofs.taking.take_node.Given as goal

abbrev pub invariant-loop-next : goal.invariant-loop-next
invariant-loop-next g l =
    IsStage l.task.table l.task.graph l.task.height l.nodes l.at (edge_numbers (drop l.next-index l.images))
    × Rises (edge_numbers (drop l.next-index l.images)) × (length l.nodes ≤ l.task.budget)
    × Grows l.initial.nodes l.nodes
