use Rattle.std.proofs.Common.{◌≡◌, drop, length}
use Rattle.fa_back.specs.inner.HopTables.{put_hops}
use Rattle.fa_back.proofs.hops.put_hops.Given as goal

abbrev pub invariant-loop-hop : goal.invariant-loop-hop
invariant-loop-hop l = (put_hops l.table (drop l.hop-index l.hops) ≡ put_hops l.initial.table l.hops)
    × (length l.table ≡ length l.initial.table)
