use Rattle.std.proofs.Common.{◌<◌, take}
use Rattle.fore_base.specs.Lists.{Every}
use Rattle.ta_core.proofs.ranked.are_below.Given as goal

abbrev pub invariant-loop-state : goal.invariant-loop-state
invariant-loop-state l = Every (λ q. q < l.limit) (take l.state-index l.states)
