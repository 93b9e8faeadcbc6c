use Rattle.std.proofs.Common.{ℕ, ◌<◌}
use Rattle.fore_base.specs.Marks.{IsMarked}
use Rattle.ta_incl.proofs.found.are_part.Given as goal

abbrev pub invariant-loop-place : goal.invariant-loop-place
invariant-loop-place l = (q : ℕ) → q < l.place → IsMarked l.marks q → IsMarked l.other q
