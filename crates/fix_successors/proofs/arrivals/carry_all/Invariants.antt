use Rattle.std.proofs.Common.{take}
use Rattle.fix_successors.specs.Arriving.{AreCarried}
use Rattle.fix_successors.proofs.arrivals.carry_all.Given as goal

abbrev pub invariant-loop-case : goal.invariant-loop-case
invariant-loop-case l = AreCarried (take l.case-index l.cases) l.states
