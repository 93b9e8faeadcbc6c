use Rattle.std.proofs.Common.{◌≡◌, drop}
use Rattle.fore_base.specs.Stores.{set_each}
use Rattle.c_heap.proofs.values.set_these.Given as goal

abbrev pub invariant-loop-place : goal.invariant-loop-place
invariant-loop-place g l = set_each l.list (drop l.place-index l.places) l.item
    ≡ set_each l.initial.list l.places l.item
