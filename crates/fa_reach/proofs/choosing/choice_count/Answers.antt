use Rattle.fa_reach.proofs.Numbers.{count_step}
use Rattle.fa_reach.specs.inner.Parts.{choice_count}
use Rattle.fa_reach.proofs.choosing.choice_count.Goals as goal

pub loop-parts-preserved : goal.loop-parts-preserved
loop-parts-preserved c = rw (c.in_ok-count.ensures, c.len.ensures)
    (count_step c.args.all.now c.loop-parts.parts-index c.parts-item.result c.loop-parts.count
    (choice_count c.args.all.now) c.loop-parts-test.true c.parts-item.is c.loop-parts.invariant)
