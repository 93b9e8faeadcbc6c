use Rattle.std.proofs.Common.{ℕ, ◌<◌}
use Rattle.fore_base.specs.Marks.{IsMarked}
use Rattle.ta_incl.proofs.order.do_meet.Given as goal

abbrev pub invariant-loop-place : goal.invariant-loop-place
invariant-loop-place l = (k : ℕ) → k < l.place → IsMarked l.marks k → IsMarked l.row k → ⊥
