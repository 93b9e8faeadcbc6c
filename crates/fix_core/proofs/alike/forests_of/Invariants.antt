use Rattle.std.proofs.Common.{take}
use Rattle.fore_base.specs.Lists.{Paired}
use Rattle.fix_core.specs.inner.Holding.{IsForestOf}
use Rattle.fix_core.proofs.alike.forests_of.Given as goal

abbrev pub invariant-loop-number : goal.invariant-loop-number
invariant-loop-number l = Paired (IsForestOf l.nodes) (take l.number-index l.numbers) l.forests
