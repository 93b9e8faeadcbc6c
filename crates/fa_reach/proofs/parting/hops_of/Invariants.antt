use Rattle.std.proofs.Common.{◌≡◌, ◌++◌, drop, flat_map}
use Rattle.fa_back.specs.BackHops.{back_hops}
use Rattle.fa_reach.proofs.parting.hops_of.Given as goal

abbrev pub invariant-loop-mark : goal.invariant-loop-mark
invariant-loop-mark l = l.hops ++ flat_map (back_hops l.place) (drop l.mark-index l.signature.refs)
    ≡ flat_map (back_hops l.place) l.signature.refs
