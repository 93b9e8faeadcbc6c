use Rattle.std.proofs.Common.{◌≡◌, drop}
use Rattle.fa_merge.specs.Reordered.{place_from}
use Rattle.fa_merge.proofs.orders.place_in.Given as goal

abbrev pub invariant-loop-other : goal.invariant-loop-other
invariant-loop-other l = (l.place ≡ l.other-index)
    × (place_from l.place (drop l.other-index l.order) l.root ≡ place_from 0 l.order l.root)
