use Rattle.std.proofs.Common.{◌≡◌, take, map}
use Rattle.fa_part.proofs.edges.slots_in.Given as goal

abbrev pub invariant-loop-edge : goal.invariant-loop-edge
invariant-loop-edge l = l.made ≡ map (λ e. e.0) (take l.edge-index l.edges)
