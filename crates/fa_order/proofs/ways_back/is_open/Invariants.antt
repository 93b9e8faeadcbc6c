use Rattle.std.proofs.Common.{◌≡◌, ℕ, take}
use Rattle.fore_base.specs.Lists.{IsIn, Every}
use Rattle.fa_order.specs.inner.Backs.{MarkLeads}
use Rattle.fa_order.proofs.ways_back.is_open.Given as goal

abbrev pub invariant-loop-mark : goal.invariant-loop-mark
invariant-loop-mark l = Every (λ m. m.root ≡ l.from → (r : ℕ) → (IsIn r l.placed → ⊥) → MarkLeads l.into r m → ⊥)
    (take l.mark-index l.marks)
