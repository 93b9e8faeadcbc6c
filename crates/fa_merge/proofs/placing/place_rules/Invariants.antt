use Rattle.std.proofs.Common.{◌≡◌, take, map}
use Rattle.fa_core.specs.Placed.{placed_rule}
use Rattle.fa_merge.proofs.placing.place_rules.Given as goal

abbrev pub invariant-loop-rule : goal.invariant-loop-rule
invariant-loop-rule g l = l.made ≡ map (placed_rule (g.L.Leaves.leaf_of l.leaves)) (take l.rule-index l.rules)
