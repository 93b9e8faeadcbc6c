use Rattle.std.proofs.Common.{ℕ, ◌<◌}
use Rattle.fore_base.specs.Lists.{Every}
use Rattle.fa_sound.specs.Components.{component_at}
use Rattle.fa_lift.specs.Lift.{Owns}
use Rattle.fa_lift.specs.inner.Lifting.{HasLifts, IsLift}
use Rattle.fa_lift.proofs.lifting.lift_rule.Given as goal

abbrev pub invariant-loop-place : goal.invariant-loop-place
invariant-loop-place l = Every (IsLift l.forest.face l.forest.forest l.root l.field l.from) l.made
    × ((p : ℕ) → p < l.place
    → Owns l.forest.face.boxes l.root l.field (component_at l.forest.forest.autos l.from) l.rule p
    → HasLifts l.forest.forest l.root l.from l.rule p l.made)
