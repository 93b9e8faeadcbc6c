use Rattle.std.proofs.Common.{◌-◌, length}
use Rattle.c_heap.specs.inner.Marking.{seen, IsCounted}
use Rattle.c_heap.specs.Marks.{IsAsRoomy}
use Rattle.c_heap.proofs.Marked.{Walked}
use Rattle.c_heap.proofs.leak.has_leaked.Given as goal

abbrev pub invariant-loop-done : goal.invariant-loop-done
invariant-loop-done l = record {
  walked : Walked l.store l.store.vars l.done (seen l.marks);
  counted : IsCounted l.marks;
  room : IsAsRoomy l.initial.marks l.marks;
}

abbrev pub decreases-loop-done : goal.decreases-loop-done
decreases-loop-done l = length l.store.cells - l.done
