use Rattle.std.proofs.Common.{◌↔◌, ℕ, take}
use Rattle.fore_base.specs.Lists.{IsIn, IsDistinct}
use Rattle.ta_reduce.proofs.rooting.each_once.Given as goal

abbrev pub invariant-loop-state : goal.invariant-loop-state
invariant-loop-state l = IsDistinct l.made × ((q : ℕ) → IsIn q l.made ↔ IsIn q (take l.state-index l.states))
