use Rattle.std.proofs.Common.{◌≡◌, ◌++◌, List, length}
use Rattle.ta_sim.specs.declared.grouping.Use.{Use}
use Rattle.ta_sim.specs.inner.Using.{AreGroupedUses, uses_below}
use Rattle.ta_sim.proofs.grouping.add_uses.Given as goal

abbrev pub invariant-loop-place : goal.invariant-loop-place
invariant-loop-place l = (length l.groups ≡ l._states)
    × ((before : List Use) → AreGroupedUses before l._states l.initial.groups
    → AreGroupedUses (before ++ uses_below l.rule l.place) l._states l.groups)
