use Rattle.std.proofs.Common.{take}
use Rattle.fa_reach.specs.inner.Parts.{AreParts}
use Rattle.fa_reach.proofs.parting.parts_of.Given as goal

abbrev pub invariant-loop-signature : goal.invariant-loop-signature
invariant-loop-signature l = AreParts l.place l.signatures (take l.signature-index l.signatures) l.parts
