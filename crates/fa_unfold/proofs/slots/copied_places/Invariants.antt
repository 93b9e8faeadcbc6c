use Rattle.std.proofs.Common.{◌≡◌, take}
use Rattle.fa_unfold.proofs.slots.copied_places.Given as goal

abbrev pub invariant-loop-place : goal.invariant-loop-place
invariant-loop-place l = l.made ≡ take l.place-index l.places
