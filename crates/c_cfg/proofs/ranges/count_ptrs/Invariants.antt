use Rattle.std.proofs.Common.{◌≡◌, ◌≤◌, ◌+◌, drop, length}
use Rattle.fore_base.specs.Shapes.{targets_in}
use Rattle.c_cfg.proofs.ranges.count_ptrs.Given as goal

abbrev pub invariant-loop-field : goal.invariant-loop-field
invariant-loop-field l = (l.count ≤ l.field-index)
    × (l.count + length (targets_in (drop l.field-index l.fields)) ≡ length (targets_in l.fields))
