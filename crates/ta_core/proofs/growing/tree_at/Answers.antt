use Rattle.ta_core.specs.inner.Growing.{seen}
use Rattle.ta_core.proofs.Making.{builds_lighter, is_sized, asks_lighter, asks, has_trees, makes}
use Rattle.ta_core.proofs.Tasks.{seen_last}
use Rattle.ta_core.proofs.growing.tree_at.Goals as goal

pub open-requires-clause-there : goal.open-requires-clause-there
open-requires-clause-there c =
    is_sized c.args.rules.now c.args.sizes.now _ _ c.args.state c.tasks.trees c.tasks.invariant _
    (seen_last seen _ _ _ _ c.in-Some.ensures c.in-Visit.is)

pub tasks-smaller-in-Continue-branch-2 : goal.tasks-smaller-in-Continue-branch-2
tasks-smaller-in-Continue-branch-2 c =
    asks_lighter c.args.rules.now c.args.sizes.now _ _ c.args.state c.tasks.trees c.tasks.invariant _ _
    (seen_last seen _ _ _ _ c.in-Some.ensures c.in-Visit.is) c.in_ok-open-in-Visit.ensures

pub tasks-preserved-in-Continue-branch-2 : goal.tasks-preserved-in-Continue-branch-2
tasks-preserved-in-Continue-branch-2 c =
    asks c.args.rules.now c.args.sizes.now _ _ c.args.state c.tasks.trees c.tasks.invariant _ _
    (seen_last seen _ _ _ _ c.in-Some.ensures c.in-Visit.is) c.in_ok-open-in-Visit.ensures

pub close-requires : goal.close-requires
close-requires c = has_trees c.args.rules.now c.args.sizes.now _ _ c.args.state c.tasks.trees c.tasks.invariant _
    (seen_last seen _ _ _ _ c.in-Some.ensures c.in-Build.is)

pub tasks-smaller : goal.tasks-smaller
tasks-smaller c = builds_lighter c.args.rules.now c.args.sizes.now _ _ _
    (seen_last seen _ _ _ _ c.in-Some.ensures c.in-Build.is)

pub tasks-preserved : goal.tasks-preserved
tasks-preserved c = makes c.args.rules.now c.args.sizes.now _ _ c.args.state c.tasks.trees c.tasks.invariant _ _
    (seen_last seen _ _ _ _ c.in-Some.ensures c.in-Build.is) c.in_ok-close-in-Build.ensures
