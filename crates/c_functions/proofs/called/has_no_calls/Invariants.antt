use Rattle.std.proofs.Common.{◌≡◌, drop}
use Rattle.c_typing.specs.Functions.{has_no_calls}
use Rattle.c_functions.proofs.called.has_no_calls.Given as goal

abbrev pub invariant-loop-operand : goal.invariant-loop-operand
invariant-loop-operand l = has_no_calls (drop l.operand-index l.operands) ≡ has_no_calls l.operands
