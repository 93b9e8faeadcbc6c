use Rattle.std.proofs.Common.{take, slice_get}
use Rattle.fore_base.specs.Lists.{Every}
use Rattle.sym_step.specs.inner.Leading.{IsForwardAt}
use Rattle.sym_step.proofs.leading.do_lead_back.Given as goal

abbrev pub invariant-loop-state : goal.invariant-loop-state
invariant-loop-state l =
    Every (IsForwardAt l.forest.face.boxes (slice_get l.forest.forest.autos l.root)) (take l.state-index l.states)
