use Rattle.std.proofs.Common.{take}
use Rattle.fa_opening.specs.inner.Clearing.{AreNamed}
use Rattle.fa_opening.proofs.clearing.box_fields.Given as goal

abbrev pub invariant-loop-face : goal.invariant-loop-face
invariant-loop-face l = AreNamed (take l.face-index l.boxes) l.fields
