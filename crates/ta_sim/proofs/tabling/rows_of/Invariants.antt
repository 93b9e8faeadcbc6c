use Rattle.std.proofs.Common.{◌≡◌, length}
use Rattle.ta_sim.specs.inner.Refining.{AreMade}
use Rattle.ta_sim.proofs.tabling.rows_of.Given as goal

abbrev pub invariant-loop-left : goal.invariant-loop-left
invariant-loop-left g l = (length l.rows ≡ l.left) × AreMade l.size (g.P.Pairs.relates l.pairs) l.rows
