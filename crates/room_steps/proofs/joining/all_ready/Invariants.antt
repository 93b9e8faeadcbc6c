use Rattle.std.proofs.Common.{◌≡◌}
use Rattle.fore_base.specs.Lists.{Every}
use Rattle.fa_core.specs.Canonical.{IsCanonical}
use Rattle.fa_core.specs.Covering.{Reduced}
use Rattle.fa_sound.specs.Soundness.{SoundForest}
use Rattle.room_steps.proofs.joining.all_ready.Given as goal

abbrev pub invariant-loop-text : goal.invariant-loop-text
invariant-loop-text g l =
    Every (λ (s : SoundForest). s.face ≡ l.face) l.all
    × Every (λ (s : SoundForest). IsCanonical s.face s.forest) l.all
    × Every (λ (s : SoundForest). Reduced s.forest) l.all
