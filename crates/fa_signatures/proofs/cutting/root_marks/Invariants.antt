use Rattle.std.proofs.Common.{take}
use Rattle.fore_base.specs.Lists.{IsDistinct}
use Rattle.fa_signatures.specs.inner.CutPairs.{AreRootMarks}
use Rattle.fa_signatures.proofs.cutting.root_marks.Given as goal

abbrev pub invariant-loop-pair : goal.invariant-loop-pair
invariant-loop-pair l = record {
  marks : AreRootMarks (take l.pair-index l.pairs) l.roots l.all;
  apart : IsDistinct l.all;
}
