use Rattle.std.proofs.Common.{take}
use Rattle.fore_base.specs.Lists.{Every}
use Rattle.ta_core.specs.Single.{HasOneTop}
use Rattle.fa_order.proofs.deciding.have_one_top.Given as goal

abbrev pub invariant-loop-auto : goal.invariant-loop-auto
invariant-loop-auto l = Every HasOneTop (take l.auto-index l.autos)
