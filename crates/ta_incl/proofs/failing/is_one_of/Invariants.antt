use Rattle.std.proofs.Common.{take}
use Rattle.fore_base.specs.Lists.{IsIn}
use Rattle.ta_incl.proofs.failing.is_one_of.Given as goal

abbrev pub invariant-loop-other : goal.invariant-loop-other
invariant-loop-other l = IsIn l.state (take l.other-index l.states) → ⊥
