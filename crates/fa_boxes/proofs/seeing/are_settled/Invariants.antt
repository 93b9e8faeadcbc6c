use Rattle.std.proofs.Common.{take}
use Rattle.fore_base.specs.Lists.{Every}
use Rattle.fa_boxes.specs.inner.Seeing.{IsSettled}
use Rattle.fa_boxes.proofs.seeing.are_settled.Given as goal

abbrev pub invariant-loop-rule : goal.invariant-loop-rule
invariant-loop-rule l = Every (IsSettled l.boxes l.table) (take l.rule-index l.rules)
