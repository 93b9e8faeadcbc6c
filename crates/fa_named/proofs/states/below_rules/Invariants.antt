use Rattle.std.proofs.Common.{◌≡◌, ◌++◌, drop}
use Rattle.fa_named.specs.Insides.{below_rules}
use Rattle.fa_named.proofs.states.below_rules.Given as goal

abbrev pub invariant-loop-rule : goal.invariant-loop-rule
invariant-loop-rule l = l.states ++ below_rules (drop l.rule-index l.rules) ≡ below_rules l.rules
