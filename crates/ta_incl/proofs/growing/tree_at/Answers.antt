use Rattle.std.proofs.Common.{[]}
use Rattle.ta_core.proofs.Tasks.{seen_last}
use Rattle.ta_incl.specs.inner.Tasks.{seen}
use Rattle.ta_incl.proofs.Tasks.{rule_within, opens_lighter, closes_lighter, is_place, opens, has_pair, has_trees}
use Rattle.ta_incl.proofs.Tasks.{closes}
use Rattle.ta_incl.proofs.growing.tree_at.Goals as goal

pub open-requires : goal.open-requires
open-requires c = is_place c.args.rules.now c.args.found.now c.requires.derived _ _ _ c.args.place c.tasks.trees
    c.tasks.invariant (seen_last seen _ _ _ _ c.in-Some.ensures c.in-Open.is)

pub tasks-smaller-in-Continue-branch-2 : goal.tasks-smaller-in-Continue-branch-2
tasks-smaller-in-Continue-branch-2 c =
    opens_lighter c.args.rules.now c.args.found.now c.requires.derived _ _ _ _
    (seen_last seen _ _ _ _ c.in-Some.ensures c.in-Open.is) c.in_ok-open-in-Open.ensures

pub tasks-preserved-in-Continue-branch-2 : goal.tasks-preserved-in-Continue-branch-2
tasks-preserved-in-Continue-branch-2 c =
    opens c.args.rules.now c.args.found.now c.requires.derived _ _ _ c.args.place c.tasks.trees c.tasks.invariant _
    (seen_last seen _ _ _ _ c.in-Some.ensures c.in-Open.is) c.in_ok-open-in-Open.ensures

pub close-requires-clause-there : goal.close-requires-clause-there
close-requires-clause-there c =
    has_pair c.args.rules.now c.args.found.now c.requires.derived _ _ _ c.args.place c.tasks.trees c.tasks.invariant
    (seen_last seen _ _ _ _ c.in-Some.ensures c.in-Close.is)

pub close-requires-clause-rule : goal.close-requires-clause-rule
close-requires-clause-rule c = rule_within c.args.rules.now c.args.found.now c.requires.derived [] [] _

pub close-requires-clause-enough : goal.close-requires-clause-enough
close-requires-clause-enough c =
    has_trees c.args.rules.now c.args.found.now c.requires.derived _ _ _ c.args.place c.tasks.trees c.tasks.invariant
    (seen_last seen _ _ _ _ c.in-Some.ensures c.in-Close.is)

pub tasks-smaller : goal.tasks-smaller
tasks-smaller c = closes_lighter c.args.rules.now c.args.found.now c.requires.derived _ _ _
    (seen_last seen _ _ _ _ c.in-Some.ensures c.in-Close.is)

pub tasks-preserved : goal.tasks-preserved
tasks-preserved c = closes c.args.rules.now c.args.found.now c.requires.derived _ _ _ c.args.place c.tasks.trees
    c.tasks.invariant _ (seen_last seen _ _ _ _ c.in-Some.ensures c.in-Close.is) c.in_ok-close-in-Close.ensures
