use Rattle.std.proofs.Common.{◌≡◌, ℕ, ◌<◌, Some, slice_get}
use Rattle.fa_unfold.specs.Slots.{Place}
use Rattle.fa_opening.specs.inner.Rounds.{IsGivingPlace}
use Rattle.fa_opening.proofs.giving.first_giving.Given as goal

abbrev pub invariant-loop-index : goal.invariant-loop-index
invariant-loop-index l = (p : ℕ) (x : Place) → p < l.index → slice_get l.places p ≡ Some x
    → IsGivingPlace l.boxes l.root l.field l.rules x → ⊥
