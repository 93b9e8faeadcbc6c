use Rattle.std.proofs.Common.{take}
use Rattle.fore_base.specs.Lists.{Every}
use Rattle.fa_filling.specs.Ruled.{RuleAlways}
use Rattle.fa_filling.proofs.ends.is_edge_right.Given as goal

abbrev pub invariant-loop-rule : goal.invariant-loop-rule
invariant-loop-rule l = Every (RuleAlways l.face l.topss l.shape l.edge) (take l.rule-index l.rules)
