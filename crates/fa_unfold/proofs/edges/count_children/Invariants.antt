use Rattle.std.proofs.Common.{◌≡◌, ◌+◌, ◌≤◌, drop}
use Rattle.ta_core.specs.Arity.{child_slots}
use Rattle.fa_unfold.proofs.edges.count_children.Given as goal

abbrev pub invariant-loop-slot : goal.invariant-loop-slot
invariant-loop-slot l = (l.count ≤ l.slot-index)
    × (l.count + child_slots (drop l.slot-index l.slots) ≡ child_slots l.slots)
