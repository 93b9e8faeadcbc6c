use Rattle.std.proofs.Common.{take}
use Rattle.fa_height.specs.inner.Agreeing.{HasMatch}
use Rattle.fa_height.proofs.agreeing.has_match.Given as goal

abbrev pub invariant-loop-other : goal.invariant-loop-other
invariant-loop-other l = HasMatch l.classes (take l.other-index l.rules) l.rule → ⊥
