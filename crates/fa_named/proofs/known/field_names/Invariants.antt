use Rattle.std.proofs.Common.{◌≡◌, ◌++◌, drop}
use Rattle.fa_named.specs.Structs.{field_names}
use Rattle.fa_named.proofs.known.field_names.Given as goal

abbrev pub invariant-loop-field : goal.invariant-loop-field
invariant-loop-field l = l.names ++ field_names l.of_data (drop l.field-index l.fields) ≡ field_names l.of_data l.fields
