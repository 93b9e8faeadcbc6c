use Rattle.std.proofs.Common.{◌+◌, ◌*◌, length}
use Rattle.fa_join.specs.inner.Joining.{IsJoining}
use Rattle.fa_join.proofs.lists.join_all.Given as goal

abbrev pub invariant-forests : goal.invariant-forests
invariant-forests g l = IsJoining l.face l.fn.given l.todo l.done

abbrev pub decreases-forests : goal.decreases-forests
decreases-forests g l = 2 * length l.todo + length l.done
