use Rattle.std.proofs.Common.{◌≡◌, map, drop}
use Rattle.c_typing.specs.Callees.{operand_callees}
use Rattle.c_typing.specs.Texts.{joined}
use Rattle.c_callees.specs.inner.Calling.{called}
use Rattle.c_callees.proofs.operands.«+operand».Given as goal

abbrev pub invariant-operands_calls-loop-operand : goal.invariant-operands_calls-loop-operand
invariant-operands_calls-loop-operand l =
    called l.names l.found (joined (map operand_callees (drop l.operand-index l.operands)))
    ≡ called l.names l.initial.found (joined (map operand_callees l.operands))
