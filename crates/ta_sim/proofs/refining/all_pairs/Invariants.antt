use Rattle.std.proofs.Common.{◌≡◌, replicate, true}
use Rattle.ta_sim.proofs.refining.all_pairs.Given as goal

abbrev pub invariant-loop-state : goal.invariant-loop-state
invariant-loop-state l = l.rows ≡ replicate l._state (replicate l.states true)
