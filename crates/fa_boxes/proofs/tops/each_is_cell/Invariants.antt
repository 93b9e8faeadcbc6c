use Rattle.std.proofs.Common.{take}
use Rattle.fa_boxes.specs.inner.TopRules.{AtTops, IsCell}
use Rattle.fa_boxes.proofs.tops.each_is_cell.Given as goal

abbrev pub invariant-loop-rule : goal.invariant-loop-rule
invariant-loop-rule l = AtTops IsCell l.roots (take l.rule-index l.rules)
