use Rattle.std.proofs.Common.{take}
use Rattle.fa_order.specs.inner.Showing.{HasNoRule}
use Rattle.fa_order.proofs.showing.rule_of.Given as goal

abbrev pub invariant-loop-rule : goal.invariant-loop-rule
invariant-loop-rule l = HasNoRule (take l.rule-index l.rules) l.state
