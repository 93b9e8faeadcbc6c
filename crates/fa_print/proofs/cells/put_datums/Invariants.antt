use Rattle.std.proofs.Common.{◌≡◌, ◌++◌, true, map, drop}
use Rattle.fa_lines.specs.Spelling.{datum_pieces}
use Rattle.fa_named.specs.Structs.{field_names}
use Rattle.fa_print.specs.Lines.{named_data}
use Rattle.fa_print.specs.inner.Putting.{items_from}
use Rattle.fa_print.proofs.cells.put_datums.Given as goal

abbrev pub invariant-loop-i : goal.invariant-loop-i
invariant-loop-i l =
    l.text ++ items_from l.i (map datum_pieces (named_data (field_names true l.fields) l.i (drop l.i l.datums)))
    ≡ l.initial.text ++ items_from 0 (map datum_pieces (named_data (field_names true l.fields) 0 l.datums))
