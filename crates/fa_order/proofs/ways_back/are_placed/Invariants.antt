use Rattle.std.proofs.Common.{ℕ, take}
use Rattle.fore_base.specs.Lists.{IsIn}
use Rattle.fa_order.proofs.ways_back.are_placed.Given as goal

abbrev pub invariant-loop-root : goal.invariant-loop-root
invariant-loop-root l = (r : ℕ) → IsIn r (take l.root-index l.roots) → IsIn r l.placed
