use Rattle.std.proofs.Common.{take}
use Rattle.fa_faces.specs.inner.Trimmed.{AreTrimOf}
use Rattle.fa_faces.proofs.trimming.trim_each.Given as goal

abbrev pub invariant-loop-auto : goal.invariant-loop-auto
invariant-loop-auto l = AreTrimOf (take l.auto-index l.autos) l.all
