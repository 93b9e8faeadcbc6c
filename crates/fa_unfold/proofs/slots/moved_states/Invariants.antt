use Rattle.std.proofs.Common.{◌≡◌, take, map}
use Rattle.ta_core.specs.Joined.{shift}
use Rattle.fa_unfold.proofs.slots.moved_states.Given as goal

abbrev pub invariant-loop-state : goal.invariant-loop-state
invariant-loop-state l = l.made ≡ map (shift l.by) (take l.state-index l.states)
