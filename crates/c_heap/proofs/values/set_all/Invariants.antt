use Rattle.std.proofs.Common.{◌≡◌}
use Rattle.fore_base.specs.Stores.{set_each}
use Rattle.c_types.specs.Steps.{below}
use Rattle.c_heap.proofs.values.set_all.Given as goal

abbrev pub invariant-loop-i : goal.invariant-loop-i
invariant-loop-i g l = l.list ≡ set_each l.initial.list (below l.i) l.item
