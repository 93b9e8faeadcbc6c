use Rattle.std.proofs.Common.{◌≡◌, take, map}
use Rattle.fa_core.specs.Placed.{placed_auto}
use Rattle.fa_merge.proofs.placing.place_autos.Given as goal

abbrev pub invariant-loop-auto : goal.invariant-loop-auto
invariant-loop-auto g l = l.made ≡ map (placed_auto (g.L.Leaves.leaf_of l.leaves)) (take l.auto-index l.autos)
