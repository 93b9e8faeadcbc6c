use Rattle.std.proofs.Common.{◌≡◌, map, take}
use Rattle.fa_lift.specs.Lift.{hat_rule}
use Rattle.fa_lift.proofs.lifting_automata.rules_with.Given as goal

abbrev pub invariant-loop-children : goal.invariant-loop-children
invariant-loop-children l = l.made ≡ map (hat_rule l.by l.rule) (take l.children-index l.lists)
