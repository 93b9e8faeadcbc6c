use Rattle.std.proofs.Common.{ℕ, ◌<◌}
use Rattle.fore_base.specs.Marks.{IsMarked}
use Rattle.fa_reach.proofs.asking.first_unknown.Given as goal

abbrev pub invariant-loop-place : goal.invariant-loop-place
invariant-loop-place l = (r : ℕ) → r < l.place → IsMarked l.known r
