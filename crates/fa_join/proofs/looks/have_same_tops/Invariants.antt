use Rattle.std.proofs.Common.{◌≡◌, ◌↔◌, length, drop}
use Rattle.fore_base.specs.Lists.{Paired}
use Rattle.fa_join.specs.inner.Differing.{SameTops}
use Rattle.fa_join.proofs.looks.have_same_tops.Given as goal

abbrev pub invariant-loop-place : goal.invariant-loop-place
invariant-loop-place l = (length l.left ≡ length l.right)
    × (Paired SameTops (drop l.place l.left) (drop l.place l.right) ↔ Paired SameTops l.left l.right)
