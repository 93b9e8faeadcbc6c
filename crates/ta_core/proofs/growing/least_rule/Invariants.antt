use Rattle.std.proofs.Common.{take}
use Rattle.fore_base.specs.Lists.{Every}
use Rattle.ta_core.specs.inner.Sizes.{IsLeastRule}
use Rattle.ta_core.proofs.growing.least_rule.Given as goal

abbrev pub invariant-loop-rule : goal.invariant-loop-rule
invariant-loop-rule l = Every (λ r. IsLeastRule l.sizes l.state r → ⊥) (take l.rule-index l.rules)
