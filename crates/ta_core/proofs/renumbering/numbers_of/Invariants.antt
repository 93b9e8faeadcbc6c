use Rattle.std.proofs.Common.{◌≡◌, take, map, slice_index}
use Rattle.ta_core.proofs.renumbering.numbers_of.Given as goal

abbrev pub invariant-loop-state : goal.invariant-loop-state
invariant-loop-state l = l.made ≡ map (λ q. slice_index l.numbers q) (take l.state-index l.states)
