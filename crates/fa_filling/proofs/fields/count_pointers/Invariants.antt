use Rattle.std.proofs.Common.{◌≡◌, ◌≤◌, ◌+◌, drop, length}
use Rattle.fore_base.specs.Shapes.{targets_in}
use Rattle.fa_filling.proofs.fields.count_pointers.Given as goal

abbrev pub invariant-loop-field : goal.invariant-loop-field
invariant-loop-field l =
    (l.count ≤ l.field-index)
    × (l.count + length (targets_in (drop l.field-index l.fields)) ≡ length (targets_in l.fields))
