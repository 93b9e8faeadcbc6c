use Rattle.std.proofs.Common.{take}
use Rattle.fa_split.specs.Split.{AreThose}
use Rattle.fa_split.specs.inner.Ends.{HasLeafRule}
use Rattle.fa_split.proofs.ending.leaves_at.Given as goal

abbrev pub invariant-loop-rule : goal.invariant-loop-rule
invariant-loop-rule l = AreThose (HasLeafRule (take l.rule-index l.rules) l.state) l.leaves
