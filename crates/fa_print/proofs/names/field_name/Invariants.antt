use Rattle.std.proofs.Common.{◌≡◌, drop}
use Rattle.fa_named.specs.Structs.{field_names}
use Rattle.fa_print.specs.Names.{name_at}
use Rattle.fa_print.proofs.names.field_name.Given as goal

abbrev pub invariant-loop-field : goal.invariant-loop-field
invariant-loop-field l =
    name_at (field_names l.of_data (drop l.field-index l.fields)) l.left
    ≡ name_at (field_names l.of_data l.fields) l.number
