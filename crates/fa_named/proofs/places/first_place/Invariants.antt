use Rattle.std.proofs.Common.{◌≡◌, ◌+◌, drop}
use Rattle.fa_named.specs.Places.{place}
use Rattle.fa_named.proofs.places.first_place.Given as goal

abbrev pub invariant-loop-i : goal.invariant-loop-i
invariant-loop-i l = place l.name l.names ≡ l.i + place l.name (drop l.i l.names)
