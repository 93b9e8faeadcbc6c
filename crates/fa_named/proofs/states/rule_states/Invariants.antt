use Rattle.std.proofs.Common.{◌≡◌, take}
use Rattle.fa_named.specs.Insides.{rule_states}
use Rattle.fa_named.proofs.states.rule_states.Given as goal

abbrev pub invariant-loop-rule : goal.invariant-loop-rule
invariant-loop-rule l = l.states ≡ rule_states (take l.rule-index l.rules)
