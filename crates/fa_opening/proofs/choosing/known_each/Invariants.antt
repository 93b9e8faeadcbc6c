use Rattle.std.proofs.Common.{take}
use Rattle.fore_base.specs.Lists.{Every}
use Rattle.fa_sound.specs.Soundness.{IsSigned}
use Rattle.fa_opening.proofs.choosing.known_each.Given as goal

abbrev pub invariant-loop-part : goal.invariant-loop-part
invariant-loop-part l = Every IsSigned (take l.part-index l.parts)
