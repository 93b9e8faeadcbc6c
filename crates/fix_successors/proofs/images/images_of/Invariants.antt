use Rattle.std.proofs.Common.{◌≡◌, take}
use Rattle.fore_base.specs.Lists.{Every}
use Rattle.fix_successors.specs.Images.{IsEdgeImage, edge_numbers}
use Rattle.fix_successors.proofs.images.images_of.Given as goal

abbrev pub invariant-loop-number : goal.invariant-loop-number
invariant-loop-number g l =
    Every (IsEdgeImage l.task.table l.task.graph l.task.height l.due.location l.due.forest.forest) l.all
    × (edge_numbers l.all ≡ take l.number-index l.number-items)
