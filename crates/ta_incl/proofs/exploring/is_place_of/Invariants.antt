use Rattle.std.proofs.Common.{◌≡◌, drop}
use Rattle.ta_incl.specs.inner.Founds.{is_among}
use Rattle.ta_incl.proofs.exploring.is_place_of.Given as goal

abbrev pub invariant-loop-other : goal.invariant-loop-other
invariant-loop-other l = is_among l.place (drop l.other-index l.places) ≡ is_among l.place l.places
