use Rattle.std.proofs.Common.{take}
use Rattle.fore_base.specs.Lists.{Every}
use Rattle.ta_core.specs.Auto.{IsRanked}
use Rattle.fa_back.proofs.ranked.ranked.Given as goal

abbrev pub invariant-loop-auto : goal.invariant-loop-auto
invariant-loop-auto l = Every IsRanked (take l.auto-index l.autos)
