use Rattle.std.proofs.Common.{◌≡◌, ◌++◌, drop}
use Rattle.fa_core.specs.Folding.{taken_at}
use Rattle.fa_part.specs.Ports.{ports_of}
use Rattle.fa_part.proofs.ports.taken_at.Given as goal

abbrev pub invariant-loop-port : goal.invariant-loop-port
invariant-loop-port l =
    l.made ++ taken_at (ports_of (drop l.port-index l.ports)) l.root ≡ taken_at (ports_of l.ports) l.root
