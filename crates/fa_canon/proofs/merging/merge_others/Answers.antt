use Rattle.fa_canon.proofs.MergedRoots.{regrouped_on, regrouped_same}
use Rattle.fa_canon.proofs.merging.merge_others.Goals as goal

pub merges-init : goal.merges-init
merges-init c = regrouped_same c.args.forest

pub merges-preserved : goal.merges-preserved
merges-preserved c = regrouped_on c.args.forest c.merges.merged c.in_ok-merged.merged c.merges.invariant
    c.in_ok-merged.ensures.regrouped
