use Rattle.std.proofs.Common.{take}
use Rattle.ta_sim.specs.inner.Using.{AreByChild}
use Rattle.ta_sim.proofs.grouping.by_child.Given as goal

abbrev pub invariant-loop-rule : goal.invariant-loop-rule
invariant-loop-rule l = AreByChild (take l.rule-index l.rules) l.states l.groups
