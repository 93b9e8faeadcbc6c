use Rattle.std.proofs.Common.{◌≡◌, take, map}
use Rattle.fa_core.specs.Placed.{placed_leaf}
use Rattle.fa_merge.proofs.placing.place_targets.Given as goal

abbrev pub invariant-loop-target : goal.invariant-loop-target
invariant-loop-target g l = l.made ≡ map (placed_leaf (g.L.Leaves.leaf_of l.leaves)) (take l.target-index l.targets)
