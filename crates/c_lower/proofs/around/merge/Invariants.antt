use Rattle.std.proofs.Common.{◌≡◌, ◌≤◌, drop, length}
use Rattle.c_types.specs.Control.{merged}
use Rattle.c_lower.proofs.around.merge.Given as goal

abbrev pub invariant-loop-at : goal.invariant-loop-at
invariant-loop-at l = record {
  within : l.at ≤ length l.numbers;
  list : l.list ≡ merged (drop l.at l.numbers) l.initial.list;
}
