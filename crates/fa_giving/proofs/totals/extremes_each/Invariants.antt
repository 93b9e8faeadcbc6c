use Rattle.std.proofs.Common.{take}
use Rattle.fore_base.specs.Lists.{Paired}
use Rattle.fa_giving.specs.inner.Totals.{AreExtremes}
use Rattle.fa_giving.proofs.totals.extremes_each.Given as goal

abbrev pub invariant-loop-auto : goal.invariant-loop-auto
invariant-loop-auto l = Paired (AreExtremes l.boxes l.root l.field) (take l.auto-index l.autos) l.all
