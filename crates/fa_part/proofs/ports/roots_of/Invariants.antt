use Rattle.std.proofs.Common.{◌≡◌, take}
use Rattle.fa_part.specs.Ports.{roots_of}
use Rattle.fa_part.proofs.ports.roots_of.Given as goal

abbrev pub invariant-loop-port : goal.invariant-loop-port
invariant-loop-port l = l.made ≡ roots_of (take l.port-index l.ports)
