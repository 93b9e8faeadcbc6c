use Rattle.std.proofs.Common.{take}
use Rattle.fa_split.specs.Chosen.{Picked}
use Rattle.fa_unfold.specs.Unfolding.{IsTop}
use Rattle.fa_unfold.proofs.tops.tops.Given as goal

abbrev pub invariant-loop-rule : goal.invariant-loop-rule
invariant-loop-rule l = Picked (IsTop l.auto') (take l.rule-index l.rules) l.made
