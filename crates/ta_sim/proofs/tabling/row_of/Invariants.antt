use Rattle.std.proofs.Common.{◌<◌}
use Rattle.fore_base.specs.Marks.{MarksOf}
use Rattle.ta_sim.proofs.tabling.row_of.Given as goal

abbrev pub invariant-loop-right : goal.invariant-loop-right
invariant-loop-right g l = MarksOf l.right (λ q. (q < l.right) × g.P.Pairs.relates l.pairs l.left q) l.row
