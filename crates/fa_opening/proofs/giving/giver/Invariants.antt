use Rattle.std.proofs.Common.{ℕ, ◌<◌}
use Rattle.fa_opening.specs.inner.Rounds.{IsGiver}
use Rattle.fa_opening.proofs.giving.giver.Given as goal

abbrev pub invariant-loop-at : goal.invariant-loop-at
invariant-loop-at l = (u p : ℕ) → u < l.at
    → IsGiver l.forest.face.boxes l.root l.field l.forest.forest u p → ⊥
