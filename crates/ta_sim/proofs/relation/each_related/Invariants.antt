use Rattle.std.proofs.Common.{◌≡◌, drop}
use Rattle.ta_sim.specs.inner.Matching.{related_each}
use Rattle.ta_sim.proofs.relation.each_related.Given as goal

abbrev pub invariant-loop-place : goal.invariant-loop-place
invariant-loop-place l = related_each l.rows (drop l.place l.left) (drop l.place l.right)
    ≡ related_each l.rows l.left l.right
