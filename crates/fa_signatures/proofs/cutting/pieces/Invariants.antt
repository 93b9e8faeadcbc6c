use Rattle.std.proofs.Common.{take}
use Rattle.fa_signatures.specs.inner.CutPairs.{AreCutBy, WhereFound}
use Rattle.fa_signatures.proofs.cutting.pieces.Given as goal

abbrev pub invariant-loop-marks : goal.invariant-loop-marks
invariant-loop-marks l = WhereFound l.whole l.found (λ bs. AreCutBy bs l.whole (take l.marks-index l.all) l.pieces)
