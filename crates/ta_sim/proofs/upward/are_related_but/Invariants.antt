use Rattle.std.proofs.Common.{◌≡◌, ℕ, ◌<◌, slice_index}
use Rattle.ta_sim.specs.Relations.{Relates}
use Rattle.ta_sim.proofs.upward.are_related_but.Given as goal

abbrev pub invariant-loop-place : goal.invariant-loop-place
invariant-loop-place l = (k : ℕ) → k < l.place → (k ≡ l.except → ⊥)
    → Relates l.rows (slice_index l.left k) (slice_index l.right k)
