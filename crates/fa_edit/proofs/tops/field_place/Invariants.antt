use Rattle.std.proofs.Common.{◌≡◌, ◌≤◌, drop}
use Rattle.fa_edit.specs.Plain.{field_place_from}
use Rattle.fa_edit.proofs.tops.field_place.Given as goal

abbrev pub invariant-loop-slot : goal.invariant-loop-slot
invariant-loop-slot l = (l.place ≤ l.slot-index)
    × (field_place_from l.place l.field (drop l.slot-index l.slots) ≡ field_place_from 0 l.field l.slots)
