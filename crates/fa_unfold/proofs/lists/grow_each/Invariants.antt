use Rattle.std.proofs.Common.{◌≡◌, map, take}
use Rattle.fa_unfold.specs.Unfolding.{grow_root}
use Rattle.fa_unfold.proofs.lists.grow_each.Given as goal

abbrev pub invariant-loop-rule : goal.invariant-loop-rule
invariant-loop-rule l = l.made ≡ map (grow_root l.boxes l.forest l.root l.port l.own) (take l.rule-index l.rules)
