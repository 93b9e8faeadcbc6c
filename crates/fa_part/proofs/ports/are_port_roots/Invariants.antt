use Rattle.std.proofs.Common.{take}
use Rattle.fore_base.specs.Lists.{Every}
use Rattle.fa_part.specs.Ports.{IsPortOf}
use Rattle.fa_part.proofs.ports.are_port_roots.Given as goal

abbrev pub invariant-loop-port : goal.invariant-loop-port
invariant-loop-port l = Every (IsPortOf l.forest.autos) (take l.port-index l.ports)
