use Rattle.std.proofs.Common.{take}
use Rattle.fa_part.specs.Ports.{ports_of}
use Rattle.fa_part.specs.inner.Found.{ArePortRefs}
use Rattle.fa_part.proofs.finding.port_refs.Given as goal

abbrev pub invariant-loop-port : goal.invariant-loop-port
invariant-loop-port l = ArePortRefs l.forest.forest.autos (ports_of (take l.port-index l.ports)) l.made
