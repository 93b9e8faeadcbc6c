use Rattle.std.proofs.Common.{take}
use Rattle.ta_reduce.specs.inner.Thinned.{HasMatch}
use Rattle.ta_reduce.proofs.dropping.has_match.Given as goal

abbrev pub invariant-loop-other : goal.invariant-loop-other
invariant-loop-other l = HasMatch l.relation (take l.other-index l.rules) l.rule → ⊥
