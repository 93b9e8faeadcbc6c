use Rattle.std.proofs.Common.{take}
use Rattle.fore_base.specs.Lists.{Every}
use Rattle.ta_sim.proofs.matching.is_answered.Given as goal

abbrev pub invariant-loop-other : goal.invariant-loop-other
invariant-loop-other g l = Every (λ y. g.M.Matching.matches l.matching l.item y → ⊥) (take l.other-index l.others)
