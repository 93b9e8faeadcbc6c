use Rattle.std.proofs.Common.{take}
use Rattle.fore_base.specs.Lists.{Every}
use Rattle.fa_filling.specs.Ruled.{RootOnce}
use Rattle.fa_filling.proofs.giving.are_roots_once.Given as goal

abbrev pub invariant-loop-rule : goal.invariant-loop-rule
invariant-loop-rule l = Every (RootOnce l.face l.above l.roots) (take l.rule-index l.rules)
