use Rattle.ta_core.proofs.Smaller.{states_low, smallest}
use Rattle.ta_core.proofs.smallest.smallest_tree.Goals as goal

pub returns-then-branch : goal.returns-then-branch
returns-then-branch c = c.in_ok-is_empty.ensures.empty.0 c.if-branch.true

pub least_sizes-requires : goal.least_sizes-requires
least_sizes-requires c = rw c.as_slice-rules.ensures (states_low _ c.auto.inside.rules c.auto.invariant.1)

pub returns-in-Some : goal.returns-in-Some
returns-in-Some c =
    let l = rw c.as_slice-rules.ensures at c.in_ok-sizes.ensures in
    let b = rw (c.as_slice.ensures, c.as_slice-2.ensures) at c.in-Some.ensures in
    let h = rw (c.as_slice-rules.ensures, c.as_slice-in-Some.ensures) at c.in_ok-tree-in-Some.ensures in
    rw (← c.auto.view_is)
    (smallest (record { states = c.auto.inside.states; roots = c.auto.inside.roots; rules = c.auto.inside.rules })
    c.in_ok-sizes.sizes c.in-Some.root c.in_ok-tree-in-Some.tree l b h)
