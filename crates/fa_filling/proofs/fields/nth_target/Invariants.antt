use Rattle.std.proofs.Common.{◌≡◌, drop, slice_get}
use Rattle.fore_base.specs.Shapes.{targets_in}
use Rattle.fa_filling.proofs.fields.nth_target.Given as goal

abbrev pub invariant-loop-def : goal.invariant-loop-def
invariant-loop-def l = slice_get (targets_in (drop l.def-index l.fields)) l.left
    ≡ slice_get (targets_in l.fields) l.field
