use Rattle.std.proofs.Common.{ℕ, take}
use Rattle.fore_base.specs.Lists.{IsIn, Every}
use Rattle.ta_core.specs.declared.auto.Rule.{Rule}
use Rattle.fa_sound.specs.Components.{component_at}
use Rattle.fa_lift.specs.Lift.{Owns}
use Rattle.fa_lift.specs.inner.Lifting.{HasLifts, IsLift}
use Rattle.fa_lift.proofs.lifting.lift_from.Given as goal

abbrev pub invariant-loop-rule : goal.invariant-loop-rule
invariant-loop-rule l = Every (IsLift l.forest.face l.forest.forest l.root l.field l.from) l.made
    × ((x : Rule) (p : ℕ) → IsIn x (take l.rule-index l.rules)
    → Owns l.forest.face.boxes l.root l.field (component_at l.forest.forest.autos l.from) x p
    → HasLifts l.forest.forest l.root l.from x p l.made)
