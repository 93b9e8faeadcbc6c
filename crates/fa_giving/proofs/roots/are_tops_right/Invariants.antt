use Rattle.std.proofs.Common.{take, true}
use Rattle.fore_base.specs.Lists.{Every}
use Rattle.ta_core.specs.declared.auto.Rule.{Rule}
use Rattle.fa_giving.specs.inner.Totals.{ForTop, IsGivenRight}
use Rattle.fa_giving.proofs.roots.are_tops_right.Given as goal

abbrev pub invariant-loop-top : goal.invariant-loop-top
invariant-loop-top l = Every (λ (o : Rule). ForTop l.autos l.place.root l.auto' o
    (IsGivenRight l.face l.place.port l.place.root l.place.field) true) (take l.top-index l.tops)
