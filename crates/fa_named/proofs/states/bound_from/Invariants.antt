use Rattle.std.proofs.Common.{◌≡◌, ◌≤◌, drop}
use Rattle.fa_named.specs.Insides.{bound_from}
use Rattle.fa_named.proofs.states.bound_from.Given as goal

abbrev pub invariant-loop-state : goal.invariant-loop-state
invariant-loop-state l =
    (l.bound ≤ 4294967296) × (bound_from l.least l.states ≡ bound_from l.bound (drop l.state-index l.states))
