use Rattle.std.proofs.Common.{take}
use Rattle.fore_base.specs.Lists.{Paired}
use Rattle.fa_order.specs.inner.Showing.{IsShownBy}
use Rattle.fa_order.proofs.showing.shown_roots.Given as goal

abbrev pub invariant-loop-root : goal.invariant-loop-root
invariant-loop-root l = Paired (IsShownBy l.forest.face.boxes) (take l.root l.forest.forest.autos) l.all
