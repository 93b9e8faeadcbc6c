use Rattle.std.proofs.Common.{refl}
use Rattle.fa_split.proofs.SplitCells.{refers_well}
use Rattle.fa_lift.specs.Lift.{lift_top}
use Rattle.fa_lift.proofs.LiftSound.{top_sound}
use Rattle.fa_lift.proofs.LiftedForests.{top_regroups}
use Rattle.fa_lift.proofs.LiftedRoots.{top_is_lift}
use Rattle.fa_lift.proofs.lifting_laws.cells_are_lifted_at_the_top.Goals as goal

pub returns : goal.returns
returns c = λ T face F r f t x p ranked there sound own i some. (
  top_regroups face.boxes F r f t ranked there (refers_well face F sound) T x p own i,
  top_sound face F r f t ranked there sound x p own i some,
  top_is_lift face.boxes F r f t ranked there x p own i (lift_top F r t x p) refl,
)
