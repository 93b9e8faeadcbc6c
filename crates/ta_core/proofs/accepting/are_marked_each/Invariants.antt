use Rattle.std.proofs.Common.{◌≡◌, drop}
use Rattle.fore_base.specs.Marks.{marked_each}
use Rattle.ta_core.proofs.accepting.are_marked_each.Given as goal

abbrev pub invariant-loop-place : goal.invariant-loop-place
invariant-loop-place l = marked_each (drop l.place l.states) (drop l.place l.sets) ≡ marked_each l.states l.sets
