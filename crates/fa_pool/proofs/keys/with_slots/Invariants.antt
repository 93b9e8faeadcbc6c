use Rattle.std.proofs.Common.{◌≡◌, drop}
use Rattle.fa_pool.specs.Keys.{with_slots}
use Rattle.fa_pool.proofs.keys.with_slots.Given as goal

abbrev pub invariant-loop-slot : goal.invariant-loop-slot
invariant-loop-slot l = with_slots l.mix (drop l.slot-index l.slots) ≡ with_slots l.key l.slots
