use Rattle.fa_fold.proofs.KeptRoots.{kept_step}
use Rattle.fa_fold.proofs.folded.kept_below.Goals as goal

pub loop-root-preserved : goal.loop-root-preserved
loop-root-preserved c =
    kept_step c.args.inner.now _ _ _ c.loop-root.root c.args.count c.loop-root-test.true c.in_ok-add_kept.ensures
    c.loop-root.invariant
