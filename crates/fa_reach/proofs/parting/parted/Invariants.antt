use Rattle.std.proofs.Common.{◌≡◌, take}
use Rattle.fa_reach.specs.inner.Parts.{AllParted}
use Rattle.fa_reach.proofs.parting.parted.Given as goal

abbrev pub invariant-loop-list : goal.invariant-loop-list
invariant-loop-list l = (l.place ≡ l.list-index) × AllParted 0 (take l.list-index l.lists) l.all
