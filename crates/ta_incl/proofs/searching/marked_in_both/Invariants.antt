use Rattle.std.proofs.Common.{◌<◌}
use Rattle.fore_base.specs.Marks.{IsMarked, MarksOf}
use Rattle.ta_incl.proofs.searching.marked_in_both.Given as goal

abbrev pub invariant-loop-place : goal.invariant-loop-place
invariant-loop-place l =
    MarksOf l.place (λ q. (q < l.place) × (IsMarked l.live q × IsMarked l.taken q)) l.ready
