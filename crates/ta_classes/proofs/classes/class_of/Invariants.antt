use Rattle.std.proofs.Common.{ℕ, ◌<◌, slice_index}
use Rattle.ta_classes.proofs.classes.class_of.Given as goal

abbrev pub invariant-loop-class : goal.invariant-loop-class
invariant-loop-class g l = (v : ℕ) → v < l.class → g.L.Likeness.alike l.likeness (slice_index l.firsts v) l.number → ⊥
