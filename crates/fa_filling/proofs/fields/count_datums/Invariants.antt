use Rattle.std.proofs.Common.{◌≡◌, ◌≤◌, ◌+◌, drop}
use Rattle.fore_base.specs.Shapes.{datums_in}
use Rattle.fa_filling.proofs.fields.count_datums.Given as goal

abbrev pub invariant-loop-field : goal.invariant-loop-field
invariant-loop-field l = (l.count ≤ l.field-index)
    × (l.count + datums_in (drop l.field-index l.fields) ≡ datums_in l.fields)
