use Rattle.std.proofs.Common.{ℕ, List, length, reverse}
use Rattle.fa_core.specs.Folding.{Placing}
use Rattle.fa_core.specs.References.{AllBelow}
use Rattle.fa_order.specs.inner.Stacks.{nth_refs, weight}
use Rattle.fa_part.proofs.visiting.visited.Given as goal

abbrev pub invariant-loop-root : goal.invariant-loop-root
invariant-loop-root l =
    ((order : List ℕ) → Placing (nth_refs l.refers) (reverse l.stack) l.placed order
    → Placing (nth_refs l.refers) l.from l.ports order)
    × AllBelow (length l.refers) (reverse l.stack)

abbrev pub decreases-loop-root : goal.decreases-loop-root
decreases-loop-root l = weight l.refers (reverse l.stack) l.placed
