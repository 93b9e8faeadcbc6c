use Rattle.std.proofs.Common.{◌≡◌, List, take}
use Rattle.ta_incl.specs.declared.found.Found.{Found}
use Rattle.ta_incl.specs.inner.Founds.{AreAt, sets_of}
use Rattle.ta_incl.proofs.exploring.sets_at.Given as goal

abbrev pub invariant-loop-place : goal.invariant-loop-place
invariant-loop-place l = (items : List Found) → AreAt l.found (take l.place-index l.places) items
    → l.sets ≡ sets_of items
