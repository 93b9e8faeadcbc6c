use Rattle.std.proofs.Common.{ℕ, ◌<◌}
use Rattle.fore_base.specs.Marks.{IsMarked}
use Rattle.fa_reach.proofs.avoiding.has_fallen.Given as goal

abbrev pub invariant-loop-place : goal.invariant-loop-place
invariant-loop-place l = (u : ℕ) → u < l.place → IsMarked l.known u → IsMarked l.set u
