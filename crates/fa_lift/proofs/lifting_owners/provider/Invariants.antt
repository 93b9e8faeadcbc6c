use Rattle.std.proofs.Common.{ℕ, ◌<◌}
use Rattle.fa_lift.specs.Lift.{IsProvider}
use Rattle.fa_lift.proofs.lifting_owners.provider.Given as goal

abbrev pub invariant-loop-from : goal.invariant-loop-from
invariant-loop-from l = (t : ℕ) → t < l.from
    → IsProvider l.forest.face.boxes l.forest.forest l.root l.field t → ⊥
