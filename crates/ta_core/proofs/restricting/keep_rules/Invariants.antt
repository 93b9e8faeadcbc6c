use Rattle.std.proofs.Common.{◌≡◌, ◌++◌, drop, slice_index}
use Rattle.ta_core.specs.inner.Restricted.{kept_rules}
use Rattle.ta_core.proofs.restricting.keep_rules.Given as goal

abbrev pub invariant-loop-rule : goal.invariant-loop-rule
invariant-loop-rule l = l.kept ++ kept_rules l.marks (λ q. slice_index l.numbers q) (drop l.rule-index l.rules)
    ≡ kept_rules l.marks (λ q. slice_index l.numbers q) l.rules
