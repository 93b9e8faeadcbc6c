use Rattle.std.proofs.Common.{◌≡◌, length, drop}
use Rattle.fa_sound.specs.inner.Learnt.{flagged}
use Rattle.fa_sound.proofs.learning.flagged.Given as goal

abbrev pub invariant-loop-rule : goal.invariant-loop-rule
invariant-loop-rule l = (flagged l.leaf (drop l.rule-index l.rules) l.made ≡ flagged l.leaf l.rules l.table)
    × (length l.made ≡ length l.table)
