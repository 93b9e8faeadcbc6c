use Rattle.fa_unfold.proofs.GrownTrees.{below_right}
use Rattle.fa_unfold.proofs.growing.below_tops.Goals as goal

pub invariant_of-result : goal.invariant_of-result
invariant_of-result c =
    rw (c.in_ok-rules.ensures, c.in_ok-roots.ensures, c.roots_of.ensures, c.states_of.ensures)
    (below_right c.args.port.now c.known.ensures)
