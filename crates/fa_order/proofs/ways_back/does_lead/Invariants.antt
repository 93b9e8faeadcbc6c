use Rattle.std.proofs.Common.{◌≡◌, take}
use Rattle.fore_base.specs.Lists.{Every}
use Rattle.fa_order.specs.inner.Backs.{MarkLeads}
use Rattle.fa_order.proofs.ways_back.does_lead.Given as goal

abbrev pub invariant-loop-mark : goal.invariant-loop-mark
invariant-loop-mark l = Every (λ m. m.root ≡ l.from → MarkLeads l.into l.root m → ⊥) (take l.mark-index l.marks)
