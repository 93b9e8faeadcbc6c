use Rattle.std.proofs.Common.{◌≡◌, map, take}
use Rattle.fa_signatures.specs.inner.CutPairs.{below_pair}
use Rattle.fa_signatures.proofs.pairing.belows_at.Given as goal

abbrev pub invariant-loop-place : goal.invariant-loop-place
invariant-loop-place l = l.belows ≡ map (below_pair l.pairs) (take l.place-index l.places)
