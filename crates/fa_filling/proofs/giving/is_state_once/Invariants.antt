use Rattle.std.proofs.Common.{take}
use Rattle.fore_base.specs.Lists.{Every}
use Rattle.fa_filling.specs.Ruled.{StateOnce}
use Rattle.fa_filling.proofs.giving.is_state_once.Given as goal

abbrev pub invariant-loop-rule : goal.invariant-loop-rule
invariant-loop-rule l = Every (StateOnce l.face l.above l.state) (take l.rule-index l.rules)
