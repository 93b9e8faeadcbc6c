use Rattle.std.proofs.Common.{◌≡◌, false, take, drop}
use Rattle.fore_base.specs.Lists.{Every}
use Rattle.fa_core.specs.Ways.{has}
use Rattle.fa_split.specs.Split.{first_of}
use Rattle.fa_split.proofs.topping.first_rule.Given as goal

abbrev pub invariant-loop-rule : goal.invariant-loop-rule
invariant-loop-rule l = (first_of l.states (drop l.rule-index l.rules) ≡ first_of l.states l.rules)
    × Every (λ x. has x.state l.states ≡ false) (take l.rule-index l.rules)
