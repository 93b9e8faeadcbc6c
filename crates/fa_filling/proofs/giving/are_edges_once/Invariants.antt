use Rattle.std.proofs.Common.{take}
use Rattle.fore_base.specs.Lists.{Every}
use Rattle.fa_filling.specs.Ruled.{IsOnceBelow}
use Rattle.fa_filling.proofs.giving.are_edges_once.Given as goal

abbrev pub invariant-loop-rule : goal.invariant-loop-rule
invariant-loop-rule l = Every (IsOnceBelow l.face l.rules) (take l.rule-index l.rules)
