use Rattle.std.proofs.Common.{ℕ, ◌<◌}
use Rattle.fore_base.specs.Marks.{IsMarked, MarksOf}
use Rattle.ta_sim.specs.Relations.{Relates}
use Rattle.ta_incl.proofs.order.states_to.Given as goal

abbrev pub invariant-loop-state : goal.invariant-loop-state
invariant-loop-state l =
    MarksOf l.state (λ m. (m < l.state) × ((k : ℕ) × IsMarked l.marks k × Relates l.rows m k)) l.under
