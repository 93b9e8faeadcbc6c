use Rattle.std.proofs.Common.{◌≡◌, flat_map, take}
use Rattle.fa_unfold.proofs.growing.states_in.Given as goal

abbrev pub invariant-loop-place : goal.invariant-loop-place
invariant-loop-place l = l.made ≡ flat_map (λ p. p.1) (take l.place-index l.places)
