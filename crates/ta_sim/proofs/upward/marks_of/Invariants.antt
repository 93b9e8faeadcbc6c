use Rattle.std.proofs.Common.{take}
use Rattle.fore_base.specs.Lists.{IsIn}
use Rattle.fore_base.specs.Marks.{MarksOf}
use Rattle.ta_sim.proofs.upward.marks_of.Given as goal

abbrev pub invariant-loop-state : goal.invariant-loop-state
invariant-loop-state l = MarksOf l.count (λ q. IsIn q (take l.state-index l.states)) l.marks
