use Rattle.std.proofs.Common.{take}
use Rattle.ta_incl.specs.inner.Founds.{HasCover}
use Rattle.ta_incl.proofs.found.has_cover.Given as goal

abbrev pub invariant-loop-other : goal.invariant-loop-other
invariant-loop-other l = HasCover l.order (take l.other-index l.found) l.pair → ⊥
