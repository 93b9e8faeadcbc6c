use Rattle.std.proofs.Common.{ℕ, ◌<◌}
use Rattle.fa_order.specs.Placing.{IsOpenAt}
use Rattle.fa_order.specs.inner.Backs.{LeadsBy}
use Rattle.fa_order.proofs.ways_back.is_open_from.Given as goal

abbrev pub invariant-loop-place : goal.invariant-loop-place
invariant-loop-place l = (j : ℕ) → j < l.place
    → IsOpenAt (LeadsBy l.signatures) l.placed l.from j → ⊥
