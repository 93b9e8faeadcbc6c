use Rattle.std.proofs.Common.{ℕ, ◌≤◌, length}
use Rattle.fa_merge.specs.Merged.{CanMerge}
use Rattle.fa_canon.proofs.merging.last_merge.Given as goal

abbrev pub invariant-loop-root : goal.invariant-loop-root
invariant-loop-root l = (l.root ≤ length l.forest.forest.autos)
    × ((k : ℕ) → l.root ≤ k → CanMerge l.forest.forest k → ⊥)
