use Rattle.std.proofs.Common.{take}
use Rattle.fa_boxes.specs.inner.TopRules.{AtTops, IsCellOf}
use Rattle.fa_boxes.proofs.tops.each_is_cell_of.Given as goal

abbrev pub invariant-loop-rule : goal.invariant-loop-rule
invariant-loop-rule l = AtTops (IsCellOf l.shape) l.roots (take l.rule-index l.rules)
