use Rattle.std.proofs.Common.{take}
use Rattle.fore_base.specs.Lists.{Every}
use Rattle.ta_core.specs.Auto.{IsRankedRule}
use Rattle.ta_core.proofs.ranked.are_ranked.Given as goal

abbrev pub invariant-loop-rule : goal.invariant-loop-rule
invariant-loop-rule l = Every (IsRankedRule l.limit) (take l.rule-index l.rules)
