use Rattle.std.proofs.Common.{take}
use Rattle.fore_base.specs.Lists.{Every}
use Rattle.sym_step.specs.inner.Stepping.{HasDressed}
use Rattle.sym_step.proofs.dressing.are_dressed.Given as goal

abbrev pub invariant-loop-forest : goal.invariant-loop-forest
invariant-loop-forest l = Every (λ s. HasDressed s.forest) (take l.forest-index l.forests)
