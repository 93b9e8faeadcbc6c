use Rattle.std.proofs.Common.{take}
use Rattle.c_calls.specs.inner.Turning.{Adds}
use Rattle.c_calls.proofs.turning.add_caller.Given as goal

abbrev pub invariant-loop-function : goal.invariant-loop-function
invariant-loop-function l = Adds l.caller (take l.function-index l.called) l.initial.callers l.callers
