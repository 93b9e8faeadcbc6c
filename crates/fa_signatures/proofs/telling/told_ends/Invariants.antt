use Rattle.std.proofs.Common.{◌≡◌, take}
use Rattle.fa_signatures.specs.inner.Telling.{told_ends}
use Rattle.fa_signatures.proofs.telling.told_ends.Given as goal

abbrev pub invariant-loop-edge : goal.invariant-loop-edge
invariant-loop-edge l = l.told ≡ told_ends l.boxes (take l.edge-index l.edges)
