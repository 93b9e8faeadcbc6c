use Rattle.std.proofs.Common.{take}
use Rattle.fore_base.specs.Lists.{Every, Paired}
use Rattle.ta_core.specs.Auto.{IsRanked}
use Rattle.fa_order.specs.inner.Reduced.{IsReduction}
use Rattle.fa_order.proofs.reducing.reduced_autos.Given as goal

abbrev pub invariant-loop-auto : goal.invariant-loop-auto
invariant-loop-auto g l = Paired IsReduction (take l.auto-index l.autos) l.made × Every IsRanked l.made
