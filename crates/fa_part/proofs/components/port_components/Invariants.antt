use Rattle.std.proofs.Common.{take}
use Rattle.fa_core.specs.Folding.{ArePortAutos, position}
use Rattle.fa_part.specs.Ports.{ports_of, shapes_of}
use Rattle.fa_part.proofs.components.port_components.Given as goal

abbrev pub invariant-loop-port : goal.invariant-loop-port
invariant-loop-port l = ArePortAutos (position l.order) l.forest.autos (ports_of (take l.port-index l.ports))
    (shapes_of (take l.port-index l.ports)) l.made
