use Rattle.ta_core.specs.inner.Running.{seen}
use Rattle.ta_core.proofs.Tasks.{seen_last}
use Rattle.ta_core.proofs.Visiting.{visits_less, closes_less, visits, has_sets, closes}
use Rattle.ta_core.proofs.running.run_states.Goals as goal

pub tasks-smaller-in-Continue-branch-2 : goal.tasks-smaller-in-Continue-branch-2
tasks-smaller-in-Continue-branch-2 c =
    visits_less _ _ _ _ (seen_last seen _ _ _ _ c.in-Some.ensures c.in-Visit.is) c.in_ok-open-in-Visit.ensures

pub tasks-preserved-in-Continue-branch-2 : goal.tasks-preserved-in-Continue-branch-2
tasks-preserved-in-Continue-branch-2 c =
    visits _ _ _ c.args.rules.now c.args.states c.args.tree.now c.tasks.sets c.tasks.invariant _
    (seen_last seen _ _ _ _ c.in-Some.ensures c.in-Visit.is) c.in_ok-open-in-Visit.ensures

pub close-requires-clause-enough : goal.close-requires-clause-enough
close-requires-clause-enough c =
    has_sets _ _ _ c.args.rules.now c.args.states c.args.tree.now c.tasks.sets c.tasks.invariant
    (seen_last seen _ _ _ _ c.in-Some.ensures c.in-Build.is)

pub tasks-smaller : goal.tasks-smaller
tasks-smaller c = closes_less _ _ _ (seen_last seen _ _ _ _ c.in-Some.ensures c.in-Build.is)

pub tasks-preserved : goal.tasks-preserved
tasks-preserved c = closes _ _ _ c.args.rules.now c.args.states c.args.tree.now c.tasks.sets c.tasks.invariant _
    (seen_last seen _ _ _ _ c.in-Some.ensures c.in-Build.is) c.in_ok-close-in-Build.ensures
