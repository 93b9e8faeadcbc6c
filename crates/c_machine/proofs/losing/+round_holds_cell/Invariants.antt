use Rattle.std.proofs.Common.{length}
use Rattle.c_machine.proofs.losing.+round_holds_cell.Given as goal

abbrev pub decreases-round_holds_cell : goal.decreases-round_holds_cell
decreases-round_holds_cell l = length l.stack.now
