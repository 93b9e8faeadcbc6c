use Rattle.std.proofs.Common.{◌≡◌, max, min, map, drop}
use Rattle.c_ast.specs.Depths.{deepest, depth_of_part}
use Rattle.c_ast.proofs.depths.«+stmt».Given as goal

abbrev pub invariant-parts_depth-loop-part : goal.invariant-parts_depth-loop-part
invariant-parts_depth-loop-part l =
    max l.most (min (deepest (map depth_of_part (drop l.part-index l.parts))) 4294967295)
    ≡ min (deepest (map depth_of_part l.parts)) 4294967295
