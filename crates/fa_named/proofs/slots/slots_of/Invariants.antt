use Rattle.std.proofs.Common.{◌≡◌, map, take}
use Rattle.fa_named.specs.Insides.{slot_of}
use Rattle.fa_named.proofs.slots.slots_of.Given as goal

abbrev pub invariant-loop-slot : goal.invariant-loop-slot
invariant-loop-slot l = l.made ≡ map (slot_of l.pointers l.boxes) (take l.slot-index l.slots)
