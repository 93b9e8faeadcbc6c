use Rattle.std.proofs.Common.{◌≡◌, max, min, map, drop}
use Rattle.c_ast.specs.Depths.{deepest, depth_of_declarator}
use Rattle.c_ast.proofs.depths.declarators_depth.Given as goal

abbrev pub invariant-loop-var : goal.invariant-loop-var
invariant-loop-var l = max l.most (min (deepest (map depth_of_declarator (drop l.var-index l.vars))) 4294967295)
    ≡ min (deepest (map depth_of_declarator l.vars)) 4294967295
