use Rattle.std.proofs.Common.{◌≡◌, ◌↔◌, length, drop}
use Rattle.fore_base.specs.Lists.{Paired}
use Rattle.ta_classes.specs.Classes.{IsOneClass}
use Rattle.fa_height.proofs.agreeing.are_one_class.Given as goal

abbrev pub invariant-loop-place : goal.invariant-loop-place
invariant-loop-place l = (length l.left ≡ length l.right)
    × (Paired (IsOneClass l.classes) (drop l.place l.left) (drop l.place l.right)
    ↔ Paired (IsOneClass l.classes) l.left l.right)
