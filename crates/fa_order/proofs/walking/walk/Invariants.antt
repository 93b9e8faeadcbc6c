use Rattle.std.proofs.Common.{ℕ, List, [], length, reverse}
use Rattle.fa_core.specs.References.{AllBelow}
use Rattle.fa_order.specs.Placing.{PlacingOn}
use Rattle.fa_order.specs.inner.Backs.{GivesBy, LeadsBy}
use Rattle.fa_order.specs.inner.Stacks.{nth_refs, weight}
use Rattle.fa_order.proofs.walking.walk.Given as goal

abbrev pub invariant-loop-root : goal.invariant-loop-root
invariant-loop-root l =
    ((order : List ℕ)
    → PlacingOn (nth_refs l.refers) (LeadsBy l.signatures) (GivesBy l.signatures) (reverse l.stack) l.placed order
    → PlacingOn (nth_refs l.refers) (LeadsBy l.signatures) (GivesBy l.signatures) l.from [] order)
    × AllBelow (length l.refers) (reverse l.stack)

abbrev pub decreases-loop-root : goal.decreases-loop-root
decreases-loop-root l = weight l.refers (reverse l.stack) l.placed
