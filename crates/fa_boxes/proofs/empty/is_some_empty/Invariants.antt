use Rattle.std.proofs.Common.{take}
use Rattle.fore_base.specs.Lists.{Every}
use Rattle.fa_core.specs.Filled.{HasSome}
use Rattle.fa_boxes.proofs.empty.is_some_empty.Given as goal

abbrev pub invariant-loop-auto : goal.invariant-loop-auto
invariant-loop-auto l = Every HasSome (take l.auto-index l.autos)
