use Rattle.std.proofs.Common.{take}
use Rattle.fore_base.specs.Lists.{Every}
use Rattle.fa_core.specs.Filled.{Choice}
use Rattle.ta_core.specs.Auto.{IsRanked}
use Rattle.fa_sample.proofs.picking.pick_trees.Given as goal

abbrev pub invariant-loop-auto : goal.invariant-loop-auto
invariant-loop-auto l = Choice (take l.auto-index l.autos) l.trees × Every IsRanked (take l.auto-index l.autos)
