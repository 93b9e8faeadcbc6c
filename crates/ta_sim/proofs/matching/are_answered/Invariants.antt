use Rattle.std.proofs.Common.{take}
use Rattle.fore_base.specs.Lists.{Every}
use Rattle.ta_sim.specs.inner.Matching.{IsAnswered}
use Rattle.ta_sim.proofs.matching.are_answered.Given as goal

abbrev pub invariant-loop-item : goal.invariant-loop-item
invariant-loop-item g l = Every (IsAnswered (g.M.Matching.matches l.matching) l.others) (take l.item-index l.items)
