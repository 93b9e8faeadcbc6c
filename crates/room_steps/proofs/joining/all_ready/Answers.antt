use Rattle.std.proofs.Common.{◌≡◌}
use Rattle.fore_base.specs.Lists.{Every}
use Rattle.fore_base.proofs.ListLemmas.{every_push}
use Rattle.fa_core.specs.Canonical.{IsCanonical}
use Rattle.fa_core.specs.Covering.{Reduced}
use Rattle.fa_sound.specs.Soundness.{SoundForest}
use Rattle.room_steps.proofs.joining.all_ready.Goals as goal

pub loop-text-preserved : goal.loop-text-preserved
loop-text-preserved g c =
    let all = c.loop-text.all in
    let made = c.in_ok-made.made in
    let before = c.loop-text.invariant in
    let new = c.in_ok-made.ensures in
    rw c.in_ok-push.ensures.ok (
      every_push (λ (s : SoundForest). s.face ≡ c.args.face.now) all made before.0 new.face,
      every_push (λ (s : SoundForest). IsCanonical s.face s.forest) all made before.1 new.canonical,
      every_push (λ (s : SoundForest). Reduced s.forest) all made before.2 new.reduced,
    )
