use Rattle.std.proofs.Common.{◌≡◌, ◌+◌, ◌++◌, ◌≤◌, length, reverse}
use Rattle.ta_core.proofs.results.last.Given as goal

abbrev pub invariant-loop-i : goal.invariant-loop-i
invariant-loop-i g l = record {
  long : length l.off ≡ l._i;
  off : reverse l.fn.results ≡ l.off ++ reverse l.results;
  enough : l.count ≤ length l.results + l._i;
}
