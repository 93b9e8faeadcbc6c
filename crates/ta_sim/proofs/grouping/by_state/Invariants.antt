use Rattle.std.proofs.Common.{take}
use Rattle.ta_sim.specs.inner.Matching.{AreByState}
use Rattle.ta_sim.proofs.grouping.by_state.Given as goal

abbrev pub invariant-loop-rule : goal.invariant-loop-rule
invariant-loop-rule l = AreByState (take l.rule-index l.rules) l.states l.groups
