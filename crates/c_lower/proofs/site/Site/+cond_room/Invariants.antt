use Rattle.std.proofs.Common.{◌≡◌, ◌+◌, drop}
use Rattle.c_lower.specs.inner.Emitting.{parts_width}
use Rattle.c_lower.proofs.site.Site.+cond_room.Given as goal

abbrev pub invariant-joined_room-loop-part : goal.invariant-joined_room-loop-part
invariant-joined_room-loop-part l =
    l.room + parts_width l.self.counts.ptrs l.self.counts.datums (drop l.part-index l.parts)
    ≡ parts_width l.self.counts.ptrs l.self.counts.datums l.parts
