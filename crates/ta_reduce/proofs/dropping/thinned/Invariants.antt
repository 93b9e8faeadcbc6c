use Rattle.std.proofs.Common.{◌≤◌, length, drop}
use Rattle.ta_reduce.specs.inner.Thinned.{IsThinned}
use Rattle.ta_reduce.proofs.dropping.thinned.Given as goal

abbrev pub invariant-loop-place : goal.invariant-loop-place
invariant-loop-place l = (l.place ≤ length l.rules) × IsThinned l.relation (drop l.place l.rules) l.made
