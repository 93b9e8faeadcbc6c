use Rattle.std.proofs.Common.{◌≡◌, ◌++◌, false, drop}
use Rattle.fa_named.specs.Structs.{field_names}
use Rattle.fa_print.specs.Texts.{field_pieces}
use Rattle.fa_print.specs.inner.Putting.{items_from}
use Rattle.fa_print.proofs.stores.put_fields.Given as goal

abbrev pub invariant-loop-i : goal.invariant-loop-i
invariant-loop-i l =
    l.text ++ items_from l.i (field_pieces (field_names false l.fields) l.i (drop l.i l.values))
    ≡ l.initial.text ++ items_from 0 (field_pieces (field_names false l.fields) 0 l.values)
