use Rattle.std.proofs.Common.{refl}
use Rattle.ta_core.specs.inner.Comparing.{seen}
use Rattle.ta_core.proofs.Alike.{step_less, step_keeps}
use Rattle.ta_core.proofs.Tasks.{seen_last}
use Rattle.ta_core.proofs.comparing.are_same.Goals as goal

pub nodes-smaller : goal.nodes-smaller
nodes-smaller c = step_less c.in-Some.node.now _ _ _ _ (seen_last seen _ _ _ _ c.in-Some.ensures refl)
    c.in_ok-add-in-Some-pop.ensures c.as_slice.ensures

pub nodes-preserved : goal.nodes-preserved
nodes-preserved c = step_keeps _ _ c.in-Some.node.now c.in-Some-pop.other.now _ _ _ _ _ _ _ _
    (seen_last seen _ _ _ _ c.in-Some.ensures refl) c.in_ok-add-in-Some-pop.ensures c.as_slice.ensures
    (seen_last seen _ _ _ _ c.in-Some-pop.ensures refl) c.in_ok-add-in-Some-pop-2.ensures c.as_slice-in-Some-pop.ensures
    (c.are_same_node.ensures.0 c.if-not-are_same_node.false) c.nodes.invariant
