use Rattle.std.proofs.Common.{◌≡◌, [], replicate}
use Rattle.ta_sim.proofs.grouping.no_items.Given as goal

abbrev pub invariant-loop-state : goal.invariant-loop-state
invariant-loop-state g l = l.groups ≡ replicate l._state []
