use Rattle.std.proofs.Common.{◌≡◌, ◌≤◌, ◌+◌, length, drop}
use Rattle.fore_base.specs.Shapes.{targets_in}
use Rattle.c_heap.proofs.blank.pointers_in.Given as goal

abbrev pub invariant-loop-field : goal.invariant-loop-field
invariant-loop-field l = (l.count ≤ l.field-index)
    × (l.count + length (targets_in (drop l.field-index l.fields)) ≡ length (targets_in l.fields))
