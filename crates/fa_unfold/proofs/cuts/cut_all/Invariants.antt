use Rattle.std.proofs.Common.{take}
use Rattle.fore_base.specs.Lists.{IsIn, Every}
use Rattle.fa_core.specs.declared.forest.Forest.{Forest}
use Rattle.fa_unfold.specs.inner.Cuts.{IsCutOf, HasCuts}
use Rattle.fa_unfold.proofs.cuts.cut_all.Given as goal

abbrev pub invariant-loop-whole : goal.invariant-loop-whole
invariant-loop-whole l = Every (IsCutOf l.face (take l.whole-index l.wholes)) l.made
    × ((G : Forest) → IsIn G (take l.whole-index l.wholes) → HasCuts G l.made)
