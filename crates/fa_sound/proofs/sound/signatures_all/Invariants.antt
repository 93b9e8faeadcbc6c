use Rattle.std.proofs.Common.{take}
use Rattle.fore_base.specs.Lists.{Every, Paired}
use Rattle.ta_core.specs.Auto.{IsRanked}
use Rattle.fa_sound.specs.Signatures.{AreSignatures}
use Rattle.fa_sound.proofs.sound.signatures_all.Given as goal

abbrev pub invariant-loop-auto : goal.invariant-loop-auto
invariant-loop-auto l =
    Every IsRanked (take l.auto-index l.autos)
    × Paired (AreSignatures l.boxes) (take l.auto-index l.autos) l.all
