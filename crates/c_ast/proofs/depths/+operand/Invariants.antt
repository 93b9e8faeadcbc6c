use Rattle.std.proofs.Common.{◌≡◌, max, min, map, drop}
use Rattle.c_ast.specs.Depths.{deepest, depth_of_argument}
use Rattle.c_ast.proofs.depths.«+operand».Given as goal

abbrev pub invariant-arguments_depth-loop-operand : goal.invariant-arguments_depth-loop-operand
invariant-arguments_depth-loop-operand l =
    max l.most (min (deepest (map depth_of_argument (drop l.operand-index l.operands))) 4294967295)
    ≡ min (deepest (map depth_of_argument l.operands)) 4294967295
