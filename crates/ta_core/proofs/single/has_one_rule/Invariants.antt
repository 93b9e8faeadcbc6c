use Rattle.std.proofs.Common.{◌≡◌, ◌+◌, if◌then◌else◌, drop}
use Rattle.ta_core.specs.inner.Counted.{rules_at}
use Rattle.ta_core.proofs.single.has_one_rule.Given as goal

abbrev pub invariant-loop-rule : goal.invariant-loop-rule
invariant-loop-rule l = rules_at l.state (drop l.rule-index l.rules) + (if l.found then 1 else 0)
    ≡ rules_at l.state l.rules
