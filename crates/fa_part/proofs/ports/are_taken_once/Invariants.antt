use Rattle.std.proofs.Common.{take}
use Rattle.fore_base.specs.Lists.{Every}
use Rattle.fa_part.specs.Ports.{IsTakenOnce}
use Rattle.fa_part.proofs.ports.are_taken_once.Given as goal

abbrev pub invariant-loop-port : goal.invariant-loop-port
invariant-loop-port l = Every (IsTakenOnce l.ports) (take l.port-index l.ports)
