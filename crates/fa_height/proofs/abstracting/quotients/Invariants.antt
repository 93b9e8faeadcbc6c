use Rattle.std.proofs.Common.{take}
use Rattle.fore_base.specs.Lists.{Every, Paired}
use Rattle.ta_core.specs.Auto.{IsRanked}
use Rattle.fa_height.specs.Quotients.{IsQuotient}
use Rattle.fa_height.proofs.abstracting.quotients.Given as goal

abbrev pub invariant-loop-root : goal.invariant-loop-root
invariant-loop-root l =
    Paired (IsQuotient l.forest.face.boxes l.height) (take l.root l.forest.forest.autos) l.made
    × Every IsRanked l.made
