use Rattle.std.proofs.Common.{◌≡◌, ◌++◌, drop, map}
use Rattle.fa_back.specs.BackHops.{hop}
use Rattle.fa_back.proofs.hops.push_reach.Given as goal

abbrev pub invariant-loop-root : goal.invariant-loop-root
invariant-loop-root l = l.hops ++ map (hop l.from) (drop l.root-index l.roots)
    ≡ l.initial.hops ++ map (hop l.from) l.roots
