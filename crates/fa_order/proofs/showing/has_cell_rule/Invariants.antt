use Rattle.std.proofs.Common.{◌≡◌, drop}
use Rattle.fa_order.specs.inner.Showing.{has_cell_rule}
use Rattle.fa_order.proofs.showing.has_cell_rule.Given as goal

abbrev pub invariant-loop-rule : goal.invariant-loop-rule
invariant-loop-rule l = has_cell_rule l.inhabited l.state (drop l.rule-index l.rules)
    ≡ has_cell_rule l.inhabited l.state l.rules
