use Rattle.std.proofs.Common.{◌≡◌, ◌++◌, false, map, drop}
use Rattle.fa_lines.specs.Spelling.{slot_pieces}
use Rattle.fa_named.specs.Structs.{field_names}
use Rattle.fa_print.specs.Lines.{named_slots}
use Rattle.fa_print.specs.inner.Putting.{items_from}
use Rattle.fa_print.proofs.slots.put_slots.Given as goal

abbrev pub invariant-loop-i : goal.invariant-loop-i
invariant-loop-i l =
    l.text
    ++ items_from l.i (map slot_pieces (named_slots l.table (field_names false l.fields) (drop l.i l.slots) l.left))
    ≡ l.initial.text
    ++ items_from 0 (map slot_pieces (named_slots l.table (field_names false l.fields) l.slots l.states))
