use Rattle.std.proofs.Common.{◌≡◌, ◌≤◌, ◌++◌, drop, length}
use Rattle.fa_order.specs.inner.Showing.{states_at}
use Rattle.fa_order.proofs.showing.states_at.Given as goal

abbrev pub invariant-loop-slot : goal.invariant-loop-slot
invariant-loop-slot l = (l.place ≤ length l.children)
    × (l.made ++ states_at (drop l.slot-index l.slots) (drop l.place l.children) ≡ states_at l.slots l.children)
