use Rattle.fore_base.specs.Marks.{IsMarked, marked_count}
use Rattle.fa_reach.proofs.Sweeps.{Losing}
use Rattle.fa_reach.proofs.avoiding.can_avoid.Given as goal

abbrev pub invariant-sweeps : goal.invariant-sweeps
invariant-sweeps l = Losing l.parts l.to l.set × (IsMarked l.set l.to → ⊥)

abbrev pub decreases-sweeps : goal.decreases-sweeps
decreases-sweeps l = marked_count l.set
