use Rattle.std.proofs.Common.{ℕ, take}
use Rattle.fore_base.specs.Lists.{Every}
use Rattle.fa_order.specs.Placing.{IsOpenAt}
use Rattle.fa_order.specs.inner.Backs.{LeadsBy}
use Rattle.fa_order.proofs.ways_back.lowest_open.Given as goal

abbrev pub invariant-loop-root : goal.invariant-loop-root
invariant-loop-root l = Every (λ x. (j : ℕ) → IsOpenAt (LeadsBy l.signatures) l.placed x j → ⊥)
    (take l.root-index l.placed)
