use Rattle.std.proofs.Common.{◌≡◌, map, take}
use Rattle.fa_unfold.proofs.growing.slots_in.Given as goal

abbrev pub invariant-loop-place : goal.invariant-loop-place
invariant-loop-place l = l.made ≡ map (λ p. p.0) (take l.place-index l.places)
