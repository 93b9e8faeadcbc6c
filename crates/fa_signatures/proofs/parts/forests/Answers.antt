use Rattle.std.proofs.Common.{◌≡◌, take}
use Rattle.fore_base.proofs.ListLemmas.{every_push, take_item}
use Rattle.fa_sound.specs.Soundness.{SoundForest}
use Rattle.fa_signatures.proofs.CutLaws.{forests_push}
use Rattle.fa_signatures.proofs.parts.forests.Goals as goal

pub loop-autos-preserved : goal.loop-autos-preserved
loop-autos-preserved c =
    let t = take_item c.args.choices.now c.loop-autos.autos-index c.autos-item.result c.loop-autos-test.true
    c.autos-item.is in
    rw (t, c.in_ok-push.ensures.ok) (record {
      face = every_push (λ (s : SoundForest). s.face ≡ c.args.face.now) c.loop-autos.list c.in_ok-made.made
          c.loop-autos.invariant.face c.in_ok-made.ensures.face;
      forests = forests_push c.args.forest.now c.loop-autos.list c.in_ok-made.made
          (take c.loop-autos.autos-index c.args.choices.now) c.autos-item.result c.loop-autos.invariant.forests
          c.in_ok-made.ensures.forest;
    })
