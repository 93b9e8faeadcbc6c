use Rattle.std.proofs.Common.{take}
use Rattle.fa_boxes.specs.inner.TopRules.{AtTops, CoversField}
use Rattle.fa_boxes.proofs.tops.each_covers.Given as goal

abbrev pub invariant-loop-rule : goal.invariant-loop-rule
invariant-loop-rule l = AtTops (CoversField l.boxes) l.roots (take l.rule-index l.rules)
