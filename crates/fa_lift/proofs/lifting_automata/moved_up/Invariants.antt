use Rattle.std.proofs.Common.{◌≡◌, ◌+◌, map, take}
use Rattle.fa_lift.proofs.lifting_automata.moved_up.Given as goal

abbrev pub invariant-loop-state : goal.invariant-loop-state
invariant-loop-state l = l.made ≡ map (λ q. q + l.by) (take l.state-index l.states)
