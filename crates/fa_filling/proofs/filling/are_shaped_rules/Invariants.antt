use Rattle.std.proofs.Common.{take}
use Rattle.fore_base.specs.Lists.{Every}
use Rattle.fa_filling.specs.Ruled.{IsShapedRule}
use Rattle.fa_filling.proofs.filling.are_shaped_rules.Given as goal

abbrev pub invariant-loop-rule : goal.invariant-loop-rule
invariant-loop-rule l = Every (IsShapedRule l.face l.topss l.rules) (take l.rule-index l.rules)
