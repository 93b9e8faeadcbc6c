use Rattle.std.proofs.Common.{take}
use Rattle.fore_base.specs.Lists.{IsIn, Every}
use Rattle.fa_sound.specs.Soundness.{SoundForest}
use Rattle.fa_sound.specs.Unions.{forests}
use Rattle.fa_unfold.specs.Unfolded.{UnfoldsInto}
use Rattle.fa_unfold.specs.inner.Cuts.{IsUnfoldedPart}
use Rattle.fa_unfold.proofs.whole.unfold_parts.Given as goal

abbrev pub invariant-loop-part : goal.invariant-loop-part
invariant-loop-part l = Every (IsUnfoldedPart l.table (take l.part-index l.parts) l.root l.slot) l.made
    × ((S : SoundForest) → IsIn S (take l.part-index l.parts)
    → UnfoldsInto l.table.defs S.forest l.root l.slot (forests l.made))
