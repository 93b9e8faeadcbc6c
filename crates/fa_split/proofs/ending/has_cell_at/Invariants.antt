use Rattle.std.proofs.Common.{take}
use Rattle.fa_split.specs.inner.Ends.{HasCellRule}
use Rattle.fa_split.proofs.ending.has_cell_at.Given as goal

abbrev pub invariant-loop-rule : goal.invariant-loop-rule
invariant-loop-rule l = HasCellRule l.rules l.state (take l.rule-index l.rules) → ⊥
