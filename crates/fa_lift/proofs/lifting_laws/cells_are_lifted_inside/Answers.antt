use Rattle.std.proofs.Common.{refl}
use Rattle.fa_split.proofs.SplitCells.{refers_well}
use Rattle.fa_lift.specs.Lift.{lift_in}
use Rattle.fa_lift.proofs.LiftSound.{in_sound}
use Rattle.fa_lift.proofs.LiftedForests.{in_regroups}
use Rattle.fa_lift.proofs.LiftedRoots.{in_is_lift}
use Rattle.fa_lift.proofs.lifting_laws.cells_are_lifted_inside.Goals as goal

pub returns : goal.returns
returns c = λ T face F r f t x p a ranked there sound own some right piece. (
  in_regroups face.boxes F r f t ranked there (refers_well face F sound) T x p own a
      (λ u l. ((piece.1.trees u).0 l).0),
  in_sound face F r f t ranked there sound x p own a right piece.0 piece.1 some,
  in_is_lift face.boxes F r f t ranked there x p own a piece (lift_in F r t x p a) refl,
)
