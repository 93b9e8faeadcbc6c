use Rattle.std.proofs.Common.{◌≡◌}
use Rattle.fore_base.specs.Lists.{Every}
use Rattle.fore_base.proofs.ListLemmas.{every_push}
use Rattle.fa_core.specs.Boxless.{HasNoBoxes}
use Rattle.fa_sound.specs.Soundness.{SoundForest}
use Rattle.row_forests.proofs.forests.sounds_over.Goals as goal

pub loop-text-preserved : goal.loop-text-preserved
loop-text-preserved c =
    let made = c.loop-text.made in
    let forest = c.in_ok-forest.forest in
    let kept = c.loop-text.invariant in
    let is = c.in_ok-forest.ensures in
    let faces = every_push (λ (s : SoundForest). s.face ≡ c.args.face.now) made forest kept.0 is.face in
    let plains = every_push (λ (s : SoundForest). Every HasNoBoxes s.forest.autos) made forest kept.1 is.plain in
    rw c.in_ok-push.ensures.ok (faces, plains)
