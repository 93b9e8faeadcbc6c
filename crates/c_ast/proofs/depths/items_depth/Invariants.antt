use Rattle.std.proofs.Common.{◌≡◌, max, min, map, drop}
use Rattle.c_ast.specs.Depths.{deepest, depth_of_item}
use Rattle.c_ast.proofs.depths.items_depth.Given as goal

abbrev pub invariant-loop-item : goal.invariant-loop-item
invariant-loop-item l = max l.most (min (deepest (map depth_of_item (drop l.item-index l.items))) 4294967295)
    ≡ min (deepest (map depth_of_item l.items)) 4294967295
