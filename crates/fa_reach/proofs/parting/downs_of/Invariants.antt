use Rattle.std.proofs.Common.{take}
use Rattle.fa_reach.specs.inner.Parts.{AreDowns}
use Rattle.fa_reach.proofs.parting.downs_of.Given as goal

abbrev pub invariant-loop-signature : goal.invariant-loop-signature
invariant-loop-signature l = AreDowns l.place l.hops (take l.signature-index l.signatures) l.downs
