use Rattle.std.proofs.Common.{Bool, List, ◌++◌, length}
use Rattle.ta_incl.specs.inner.Founds.{AreLasting}
use Rattle.ta_incl.proofs.found.lasting.Given as goal

abbrev pub invariant-pairs : goal.invariant-pairs
invariant-pairs l =
    (more : List Bool) → AreLasting l.order l.rest more → AreLasting l.order l.fn.found (l.marks ++ more)

abbrev pub decreases-pairs : goal.decreases-pairs
decreases-pairs l = length l.rest
