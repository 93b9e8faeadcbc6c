use Rattle.std.proofs.Common.{◌≡◌, map, take}
use Rattle.fa_named.specs.Insides.{rule_of}
use Rattle.fa_named.proofs.insides.rules_of.Given as goal

abbrev pub invariant-loop-rule : goal.invariant-loop-rule
invariant-loop-rule l = l.made ≡ map (rule_of l.known l.boxes) (take l.rule-index l.rules)
