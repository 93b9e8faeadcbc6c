use Rattle.fa_core.proofs.Placing.{placed_ranked}
use Rattle.fa_merge.proofs.placing.place_auto.Goals as goal

pub invariant_of-result : goal.invariant_of-result
invariant_of-result g c =
    rw (c.in_ok-roots.ensures, c.in_ok-rules.ensures, c.as_slice.ensures)
    (placed_ranked (g.L.Leaves.leaf_of c.args.leaves.now)
    (record { states = c.auto.inside.states; roots = c.auto.inside.roots; rules = c.auto.inside.rules })
    c.auto.invariant)
