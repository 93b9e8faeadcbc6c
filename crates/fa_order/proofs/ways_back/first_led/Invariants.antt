use Rattle.std.proofs.Common.{take}
use Rattle.fore_base.specs.Lists.{IsIn, Every}
use Rattle.fa_order.specs.inner.Backs.{SignLeads}
use Rattle.fa_order.proofs.ways_back.first_led.Given as goal

abbrev pub invariant-loop-root : goal.invariant-loop-root
invariant-loop-root l = Every (λ r. (IsIn r l.placed → ⊥) → SignLeads l.marks l.from l.into r → ⊥)
    (take l.root-index l.roots)
