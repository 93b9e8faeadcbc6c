use Rattle.std.proofs.Common.{take}
use Rattle.fa_boxes.specs.inner.TopRules.{AtTops, IsLike}
use Rattle.fa_boxes.proofs.tops.each_covers_like.Given as goal

abbrev pub invariant-loop-rule : goal.invariant-loop-rule
invariant-loop-rule l = AtTops (IsLike l.boxes l.symbol) l.roots (take l.rule-index l.rules)
