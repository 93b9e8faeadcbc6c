use Rattle.std.proofs.Common.{take}
use Rattle.fore_base.specs.Lists.{IsIn, Every}
use Rattle.fa_sound.specs.Soundness.{SoundForest}
use Rattle.fa_sound.specs.Unions.{forests}
use Rattle.fa_opening.specs.Each.{OfSome}
use Rattle.fa_opening.proofs.applying.on_each.Given as goal

abbrev pub invariant-loop-part : goal.invariant-loop-part
invariant-loop-part g l = Every (OfSome (g.S.Step.relates l.step) (take l.part-index l.parts)) l.made
    × ((F : SoundForest) → IsIn F (take l.part-index l.parts) → g.S.Step.goes_into l.step F (forests l.made))
