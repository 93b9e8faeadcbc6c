use Rattle.std.proofs.Common.{◌≡◌, [], drop}
use Rattle.c_check.specs.inner.Items.{kept_fields_sites}
use Rattle.c_expressions.specs.Meeting.{met}
use Rattle.c_check.proofs.definitions.defines_fields.Given as goal

abbrev pub invariant-loop-field : goal.invariant-loop-field
invariant-loop-field l = met l.tables l.found (kept_fields_sites l.names l.count (drop l.field-index l.fields))
    ≡ met l.tables l.initial.found (kept_fields_sites [] 0 l.fields)
