use Rattle.std.proofs.Common.{◌≡◌, ◌++◌, drop, flat_map}
use Rattle.fa_back.specs.inner.HopTables.{mark_hops}
use Rattle.fa_back.proofs.hops.push_marks.Given as goal

abbrev pub invariant-loop-mark : goal.invariant-loop-mark
invariant-loop-mark l = l.hops ++ flat_map (mark_hops l.root) (drop l.mark-index l.marks)
    ≡ l.initial.hops ++ flat_map (mark_hops l.root) l.marks
