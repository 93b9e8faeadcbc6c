use Rattle.std.proofs.Common.{take}
use Rattle.ta_core.specs.inner.Sizes.{IsBest}
use Rattle.ta_core.proofs.smallest.best_root.Given as goal

abbrev pub invariant-loop-root : goal.invariant-loop-root
invariant-loop-root l = IsBest l.sizes (take l.root-index l.roots) l.best
