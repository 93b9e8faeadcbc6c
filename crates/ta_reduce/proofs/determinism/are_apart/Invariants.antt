use Rattle.std.proofs.Common.{◌↔◌, length}
use Rattle.ta_reduce.specs.inner.Determinism.{IsDeterministic}
use Rattle.ta_reduce.proofs.determinism.are_apart.Given as goal

abbrev pub invariant-rules : goal.invariant-rules
invariant-rules l = IsDeterministic l.rest ↔ IsDeterministic l.fn.rules

abbrev pub decreases-rules : goal.decreases-rules
decreases-rules l = length l.rest
