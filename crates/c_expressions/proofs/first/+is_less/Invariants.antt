use Rattle.std.proofs.Common.{length}
use Rattle.c_expressions.proofs.first.+is_less.Given as goal

abbrev pub decreases-is_less : goal.decreases-is_less
decreases-is_less l = length l.left.now
