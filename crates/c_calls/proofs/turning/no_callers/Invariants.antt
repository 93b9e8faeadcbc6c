use Rattle.std.proofs.Common.{◌≡◌, [], replicate}
use Rattle.c_calls.proofs.turning.no_callers.Given as goal

abbrev pub invariant-loop-function : goal.invariant-loop-function
invariant-loop-function l = l.callers ≡ replicate l._function []
