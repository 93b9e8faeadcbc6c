use Rattle.std.proofs.Common.{◌≡◌, length}
use Rattle.c_callees.specs.Leading.{AreLeading}
use Rattle.c_callees.proofs.calling.all_leading.Given as goal

abbrev pub invariant-loop-to : goal.invariant-loop-to
invariant-loop-to l = record {
  leading : AreLeading l.graph l.leading;
  count : length l.leading ≡ l.to;
}
