use Rattle.std.proofs.Common.{◌≡◌, length}
use Rattle.c_machine.specs.Pending.{through, ways_of, way}
use Rattle.c_machine.proofs.answering.answer.Given as goal

abbrev pub invariant-loop-part : goal.invariant-loop-part
invariant-loop-part l = record {
  left : way l.outcome (through (ways_of l.sides) l.control.parts.items)
      ≡ way l.outcome-2 (through (ways_of l.sides) l.initial.control.parts.items);
  stack : l.control.stack ≡ l.initial.control.stack;
}

abbrev pub decreases-loop-part : goal.decreases-loop-part
decreases-loop-part l = length l.control.parts.items
