use Rattle.std.proofs.Common.{take}
use Rattle.fore_base.proofs.ListLemmas.{take_item, every_push}
use Rattle.fore_base.specs.Lists.{Every}
use Rattle.ta_core.specs.Auto.{IsRanked}
use Rattle.fa_sound.specs.Soundness.{SoundForest}
use Rattle.fix_successors.proofs.posts.are_ranked.Goals as goal

pub loop-forest-preserved : goal.loop-forest-preserved
loop-forest-preserved c =
    rw
    (take_item c.args.forests.now c.loop-forest.forest-index c.forest-item.result c.loop-forest-test.true
    c.forest-item.is)
    (every_push (λ (s : SoundForest). Every IsRanked s.forest.autos)
    (take c.loop-forest.forest-index c.args.forests.now) c.forest-item.result c.loop-forest.invariant
    c.known.ensures.ranked)
