use Rattle.std.proofs.Common.{◌≡◌, ◌≤◌, ◌-◌, ◌++◌}
use Rattle.fa_edit.specs.inner.News.{field_slots}
use Rattle.fa_edit.proofs.cells.field_slots.Given as goal

abbrev pub invariant-loop-place : goal.invariant-loop-place
invariant-loop-place l = (l.place ≤ l.count)
    × (l.slots ++ field_slots l.place (l.count - l.place) ≡ field_slots 0 l.count)
