use Rattle.std.proofs.Common.{◌≡◌, take}
use Rattle.fa_filling.specs.Parted.{tops_of}
use Rattle.fa_filling.proofs.choosing.tops_of.Given as goal

abbrev pub invariant-loop-part : goal.invariant-loop-part
invariant-loop-part l = l.tops ≡ tops_of (take l.part-index l.parts)
