use Rattle.std.proofs.Common.{take}
use Rattle.fa_boxes.specs.inner.Signs.{AreSignsIn}
use Rattle.fa_boxes.proofs.signing.signs_at.Given as goal

abbrev pub invariant-loop-state : goal.invariant-loop-state
invariant-loop-state l = AreSignsIn l.table l.states (take l.state-index l.states) l.list
