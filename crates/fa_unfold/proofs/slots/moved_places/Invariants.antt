use Rattle.std.proofs.Common.{◌≡◌, take, map}
use Rattle.fa_unfold.specs.Slots.{moved_place}
use Rattle.fa_unfold.proofs.slots.moved_places.Given as goal

abbrev pub invariant-loop-place : goal.invariant-loop-place
invariant-loop-place l = l.made ≡ map (moved_place l.by) (take l.place-index l.places)
