use Rattle.std.proofs.Common.{◌≡◌, drop, slice_get}
use Rattle.fore_base.specs.Shapes.{targets_in}
use Rattle.c_walks.proofs.edge_step.nth_target.Given as goal

abbrev pub invariant-loop-field : goal.invariant-loop-field
invariant-loop-field l = slice_get (targets_in (drop l.field-index l.fields)) l.left
    ≡ slice_get (targets_in l.fields) l.number
