use Rattle.std.proofs.Common.{ℕ, ◌↔◌, take}
use Rattle.fore_base.specs.Lists.{IsIn, IsDistinct}
use Rattle.fa_part.specs.inner.Added.{CoveredBy}
use Rattle.fa_part.proofs.fields.port_fields.Given as goal

abbrev pub invariant-loop-rule : goal.invariant-loop-rule
invariant-loop-rule l = IsDistinct l.fields
    × ((f : ℕ) → IsIn f l.fields ↔ CoveredBy l.boxes l.auto' (take l.rule-index l.rule-items) f)
