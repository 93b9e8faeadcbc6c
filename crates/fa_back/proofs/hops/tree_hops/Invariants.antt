use Rattle.std.proofs.Common.{◌≡◌, ◌++◌, drop}
use Rattle.fa_back.specs.inner.HopTables.{tree_hops}
use Rattle.fa_back.proofs.hops.tree_hops.Given as goal

abbrev pub invariant-loop-signature : goal.invariant-loop-signature
invariant-loop-signature l = (l.root ≡ l.signature-index)
    × (l.hops ++ tree_hops l.root (drop l.signature-index l.signatures) ≡ tree_hops 0 l.signatures)
