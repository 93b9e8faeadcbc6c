use Rattle.std.proofs.Common.{◌≡◌, ◌++◌, drop}
use Rattle.fore_base.specs.Shapes.{targets_in}
use Rattle.fa_core.specs.Filled.{numbered}
use Rattle.fa_filling.proofs.fields.pointer_fields.Given as goal

abbrev pub invariant-loop-field : goal.invariant-loop-field
invariant-loop-field l = l.made ++ numbered l.number (targets_in (drop l.field-index l.fields))
    ≡ numbered 0 (targets_in l.fields)
