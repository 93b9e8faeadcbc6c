use Rattle.std.proofs.Common.{◌≡◌, drop}
use Rattle.c_heap.specs.inner.Marking.{seen, noted_all, IsCounted}
use Rattle.c_heap.specs.Marks.{IsAsRoomy}
use Rattle.c_heap.proofs.leak.note_all.Given as goal

abbrev pub invariant-loop-value : goal.invariant-loop-value
invariant-loop-value l = record {
  noted : noted_all l.cells (drop l.value-index l.values) (seen l.marks)
      ≡ noted_all l.cells l.values (seen l.initial.marks);
  counted : IsCounted l.marks;
  room : IsAsRoomy l.initial.marks l.marks;
}
