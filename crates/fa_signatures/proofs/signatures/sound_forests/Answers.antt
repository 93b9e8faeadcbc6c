use Rattle.std.proofs.Common.{◌≡◌, List, [], ◌∷◌}
use Rattle.std.proofs.lemmas.Result.{IfOk-weaker}
use Rattle.fa_sound.specs.Soundness.{SoundForest}
use Rattle.fa_sound.specs.Unions.{forests}
use Rattle.fa_signatures.specs.CutForests.{AreCutForests}
use Rattle.fa_signatures.proofs.SoundCuts.{cuts_alone}
use Rattle.fa_signatures.proofs.signatures.sound_forests.Goals as goal

pub returns-in-Some-clause-cut : goal.returns-in-Some-clause-cut
returns-in-Some-clause-cut c =
    let made = rw c.in-Some.is at c.in_ok-sound.ensures in
    IfOk-weaker c.only.result (λ (list : List SoundForest). list ≡ c.in-Some.sound ∷ [])
    (λ (list : List SoundForest). AreCutForests c.args.face.now.boxes c.args.forest.now (forests list))
    (λ list e. cuts_alone c.args.face.now c.args.forest.now c.in-Some.sound list c.only.ensures.signed made.1 made.2 e)
    c.only.ensures.list
