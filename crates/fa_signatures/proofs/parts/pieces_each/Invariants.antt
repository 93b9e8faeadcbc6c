use Rattle.std.proofs.Common.{take}
use Rattle.fore_base.specs.Lists.{Paired}
use Rattle.fa_signatures.specs.CutPieces.{AreCut}
use Rattle.fa_signatures.proofs.parts.pieces_each.Given as goal

abbrev pub invariant-loop-whole : goal.invariant-loop-whole
invariant-loop-whole l = Paired (AreCut l.boxes) (take l.whole-index l.autos) l.all
