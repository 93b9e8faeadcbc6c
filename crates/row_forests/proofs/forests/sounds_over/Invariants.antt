use Rattle.std.proofs.Common.{◌≡◌}
use Rattle.fore_base.specs.Lists.{Every}
use Rattle.fa_core.specs.Boxless.{HasNoBoxes}
use Rattle.fa_sound.specs.Soundness.{SoundForest}
use Rattle.row_forests.proofs.forests.sounds_over.Given as goal

abbrev pub invariant-loop-text : goal.invariant-loop-text
invariant-loop-text l =
    Every (λ (s : SoundForest). s.face ≡ l.face) l.made
    × Every (λ (s : SoundForest). Every HasNoBoxes s.forest.autos) l.made
