use Rattle.std.proofs.Common.{◌≡◌, drop}
use Rattle.fa_order.specs.inner.Deciding.{any_ties}
use Rattle.fa_order.proofs.deciding.is_tied.Given as goal

abbrev pub invariant-loop-above : goal.invariant-loop-above
invariant-loop-above l = (l.from ≡ l.above-index)
    × (any_ties l.vars l.shown l.root l.own l.from (drop l.above-index l.shown)
    ≡ any_ties l.vars l.shown l.root l.own 0 l.shown)
