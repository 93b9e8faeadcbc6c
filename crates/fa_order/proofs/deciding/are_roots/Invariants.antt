use Rattle.std.proofs.Common.{◌≡◌, drop}
use Rattle.fa_order.specs.inner.Deciding.{roots_by}
use Rattle.fa_order.proofs.deciding.are_roots.Given as goal

abbrev pub invariant-loop-own : goal.invariant-loop-own
invariant-loop-own l = (l.root ≡ l.own-index)
    × (roots_by l.vars l.shown l.root (drop l.own-index l.shown) ≡ roots_by l.vars l.shown 0 l.shown)
