use Rattle.std.proofs.Common.{take, true, ℕ}
use Rattle.fore_base.specs.Lists.{Every}
use Rattle.fa_giving.specs.inner.Totals.{ForAll, IsGivenRight}
use Rattle.fa_giving.proofs.roots.are_fields_right.Given as goal

abbrev pub invariant-loop-field : goal.invariant-loop-field
invariant-loop-field l = Every (λ (f : ℕ). ForAll l.autos (IsGivenRight l.face l.port l.root f) true)
    (take l.field-index l.fields)
