use Rattle.std.proofs.Common.{◌≡◌, drop}
use Rattle.fa_canon.specs.inner.Cutting.{field_at}
use Rattle.fa_canon.proofs.cutting.is_field_at.Given as goal

abbrev pub invariant-loop-slot : goal.invariant-loop-slot
invariant-loop-slot l = field_at (drop l.slot-index l.slots) l.left ≡ field_at l.slots l.place
