use Rattle.std.proofs.Common.{◌≡◌, map, drop}
use Rattle.c_typing.specs.BodySites.{part_places}
use Rattle.c_typing.specs.Texts.{joined}
use Rattle.c_callees.specs.inner.Counting.{all_passed}
use Rattle.c_callees.proofs.counting.«+count».Given as goal

abbrev pub invariant-pass_parts-loop-part : goal.invariant-pass_parts-loop-part
invariant-pass_parts-loop-part l = all_passed l.count (joined (map part_places (drop l.part-index l.parts)))
    ≡ all_passed l.initial.count (joined (map part_places l.parts))
