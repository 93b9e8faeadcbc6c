use Rattle.fore_base.specs.Stores.{with_field}
use Rattle.c_types.proofs.CellsKept.{heads_with, heads_below}
use Rattle.c_heap.proofs.CellLemmas.{rises_with}
use Rattle.c_heap.proofs.heap.Heap.store_at.Goals as goal

pub invariant_of-self : goal.invariant_of-self
invariant_of-self c =
    rw c.set_field.ensures (
      rises_with c.in_ok-number.number c.args.field c.args.value 0 c.self.inside.store.cells c.self.invariant.0,
      heads_below c.self.inside.store.next c.self.inside.store.cells
          (with_field c.self.inside.store.cells c.in_ok-number.number c.args.field c.args.value)
          (heads_with c.in_ok-number.number c.args.field c.args.value c.self.inside.store.cells) c.self.invariant.1,
    )
