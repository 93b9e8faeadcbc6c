use Rattle.std.proofs.Common.{take}
use Rattle.fore_base.specs.Lists.{IsIn, Every}
use Rattle.ta_core.specs.Auto.{Automaton}
use Rattle.fa_lift.specs.Lift.{lift_in}
use Rattle.fa_lift.specs.inner.Lifting.{Among, IsLift}
use Rattle.fa_lift.proofs.lifting.with_pieces.Given as goal

abbrev pub invariant-loop-piece : goal.invariant-loop-piece
invariant-loop-piece l = Every (IsLift l.forest.face l.forest.forest l._root l._field l.from) l.made
    × ((c : Automaton) → IsIn c (take l.piece-index l.pieces)
    → Among l.made (lift_in l.forest.forest l._root l.from l._rule l._place c))
