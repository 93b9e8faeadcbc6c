use Rattle.std.proofs.Common.{◌≡◌, take}
use Rattle.fa_order.specs.inner.Backs.{refs_of}
use Rattle.fa_order.proofs.referring.references.Given as goal

abbrev pub invariant-loop-signature : goal.invariant-loop-signature
invariant-loop-signature l = l.all ≡ refs_of (take l.signature-index l.signatures)
