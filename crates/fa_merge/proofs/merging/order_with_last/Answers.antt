use Rattle.fa_merge.proofs.MergeSteps.{others_step}
use Rattle.fa_merge.proofs.merging.order_with_last.Goals as goal

pub loop-other-preserved : goal.loop-other-preserved
loop-other-preserved c =
    rw (c.in_ok-push_other.ensures, c.loop-other.invariant) (others_step c.args.root c.loop-other.other)
