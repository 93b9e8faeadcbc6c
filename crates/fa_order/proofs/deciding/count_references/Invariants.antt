use Rattle.std.proofs.Common.{◌≡◌, ◌≤◌, ◌+◌, ◌*◌, drop}
use Rattle.fa_order.specs.inner.Deciding.{times_shown}
use Rattle.fa_order.proofs.deciding.count_references.Given as goal

abbrev pub invariant-loop-own : goal.invariant-loop-own
invariant-loop-own l = (l.sum ≤ 2 * l.own-index)
    × (l.sum + times_shown l.root (drop l.own-index l.shown) ≡ times_shown l.root l.shown)
