use Rattle.std.proofs.Common.{◌≡◌, drop}
use Rattle.fa_order.specs.inner.Deciding.{any_other}
use Rattle.fa_order.proofs.deciding.is_named_elsewhere.Given as goal

abbrev pub invariant-loop-other : goal.invariant-loop-other
invariant-loop-other l = (l.from ≡ l.other-index)
    × (any_other l.root l.from (drop l.other-index l.shown) ≡ any_other l.root 0 l.shown)
