use Rattle.std.proofs.Common.{◌≡◌, max, min, map, drop}
use Rattle.c_ast.specs.Depths.{deepest, depth_of_and, depth_of_test}
use Rattle.c_ast.proofs.depths.«+cond».Given as goal

abbrev pub invariant-tests_depth-loop-test : goal.invariant-tests_depth-loop-test
invariant-tests_depth-loop-test l =
    max l.most (min (deepest (map depth_of_test (drop l.test-index l.tests))) 4294967295)
    ≡ min (deepest (map depth_of_test l.tests)) 4294967295

abbrev pub invariant-ands_depth-loop-and : goal.invariant-ands_depth-loop-and
invariant-ands_depth-loop-and l = max l.most (min (deepest (map depth_of_and (drop l.and-index l.ands))) 4294967295)
    ≡ min (deepest (map depth_of_and l.ands)) 4294967295
