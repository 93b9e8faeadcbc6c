use Rattle.std.proofs.Common.{take}
use Rattle.fore_base.specs.Lists.{Every}
use Rattle.ta_incl.specs.inner.Founds.{IsFailing}
use Rattle.ta_incl.proofs.failing.failing.Given as goal

abbrev pub invariant-loop-place : goal.invariant-loop-place
invariant-loop-place l = Every (λ f. IsFailing l.lefts l.rights f → ⊥) (take l.place l.found)
