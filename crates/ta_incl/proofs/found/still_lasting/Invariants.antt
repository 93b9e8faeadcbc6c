use Rattle.std.proofs.Common.{◌≡◌, ◌+◌, Bool, List, ◌++◌, drop, length}
use Rattle.ta_incl.specs.inner.Founds.{AreLasting}
use Rattle.ta_incl.proofs.found.still_lasting.Given as goal

abbrev pub invariant-pairs : goal.invariant-pairs
invariant-pairs l = record {
  long : l.place + length l.rest ≡ length l.fn.found;
  was : AreLasting l.order l.rest (drop l.place l.live);
  more : (more : List Bool) → AreLasting l.order (l.rest ++ l.added) more
      → AreLasting l.order (l.fn.found ++ l.added) (l.marks ++ more);
}

abbrev pub decreases-pairs : goal.decreases-pairs
decreases-pairs l = length l.rest
