use Rattle.std.proofs.Common.{take}
use Rattle.fa_height.specs.inner.Agreeing.{AreRulesOf}
use Rattle.fa_height.proofs.agreeing.rules_of.Given as goal

abbrev pub invariant-loop-rule : goal.invariant-loop-rule
invariant-loop-rule l = AreRulesOf (take l.rule-index l.rules) l.state l.made
