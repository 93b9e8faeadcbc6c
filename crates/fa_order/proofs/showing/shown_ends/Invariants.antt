use Rattle.std.proofs.Common.{take}
use Rattle.fore_base.specs.Lists.{Paired}
use Rattle.fa_order.specs.inner.Showing.{IsShownEnd}
use Rattle.fa_order.proofs.showing.shown_ends.Given as goal

abbrev pub invariant-loop-state : goal.invariant-loop-state
invariant-loop-state l = Paired (IsShownEnd l.forest.face.boxes l.auto'.rules) (take l.state-index l.states) l.ends
