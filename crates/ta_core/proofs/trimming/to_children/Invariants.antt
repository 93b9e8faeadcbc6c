use Rattle.std.proofs.Common.{◌≡◌, ◌++◌, drop}
use Rattle.ta_core.specs.inner.Arcs.{rule_arcs}
use Rattle.ta_core.proofs.trimming.to_children.Given as goal

abbrev pub invariant-loop-rule : goal.invariant-loop-rule
invariant-loop-rule l = l.arcs ++ rule_arcs l.inhabited (drop l.rule-index l.rules) ≡ rule_arcs l.inhabited l.rules
