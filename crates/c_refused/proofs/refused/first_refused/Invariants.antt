use Rattle.std.proofs.Common.{take}
use Rattle.c_refused.specs.Refused.{NoneRefused}
use Rattle.c_refused.proofs.refused.first_refused.Given as goal

abbrev pub invariant-loop-token : goal.invariant-loop-token
invariant-loop-token l = NoneRefused (take l.token-index l.tokens)
