use Rattle.std.proofs.Common.{◌≡◌, ◌-◌, length, codes}
use Rattle.fa_lines.specs.inner.Reading.{items, mores, slot_front}
use Rattle.fa_lines.proofs.items.slots.Given as goal

abbrev pub invariant-loop-i : goal.invariant-loop-i
invariant-loop-i l = mores l.found (items slot_front (codes ")") (length l.pieces - l._i) l.rest)
    ≡ items slot_front (codes ")") (length l.pieces) l.pieces
