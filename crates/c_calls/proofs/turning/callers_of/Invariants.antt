use Rattle.c_calls.specs.inner.Turning.{AreCallersUpTo}
use Rattle.c_calls.proofs.turning.callers_of.Given as goal

abbrev pub invariant-loop-caller : goal.invariant-loop-caller
invariant-loop-caller l = AreCallersUpTo l.calls l.caller l.callers
