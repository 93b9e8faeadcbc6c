use Rattle.std.proofs.Common.{take}
use Rattle.fore_base.proofs.ListLemmas.{take_item, every_push}
use Rattle.fa_sound.specs.Soundness.{IsSigned}
use Rattle.fix_successors.proofs.settling.all_known.Goals as goal

pub loop-forest-preserved : goal.loop-forest-preserved
loop-forest-preserved c =
    rw
    (take_item c.args.forests.now c.loop-forest.forest-index c.forest-item.result c.loop-forest-test.true
    c.forest-item.is)
    (every_push IsSigned (take c.loop-forest.forest-index c.args.forests.now) c.forest-item.result
    c.loop-forest.invariant c.known.ensures)
