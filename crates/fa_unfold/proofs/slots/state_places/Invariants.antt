use Rattle.std.proofs.Common.{◌≡◌, ◌≤◌, ◌++◌, drop, length}
use Rattle.fa_unfold.specs.Slots.{state_places}
use Rattle.fa_unfold.proofs.slots.state_places.Given as goal

abbrev pub invariant-loop-slot : goal.invariant-loop-slot
invariant-loop-slot l = (l.place ≤ length l.states)
    × (l.made ++ state_places (drop l.slot-index l.slots) (drop l.place l.states) ≡ state_places l.slots l.states)
