use Rattle.std.proofs.Common.{◌≡◌, ◌+◌, drop}
use Rattle.c_lower.specs.inner.Depths.{parts_of, parts_in, parts_ahead}
use Rattle.c_lower.specs.inner.Sites.{room}
use Rattle.c_lower.proofs.site.Site.+stmt_room.Given as goal

abbrev pub decreases-after_all : goal.decreases-after_all
decreases-after_all l = parts_ahead l.self.now.funcs.now l.self.now.calls + parts_in l.body.now

abbrev pub decreases-after_stmt : goal.decreases-after_stmt
decreases-after_stmt l = parts_ahead l.self.now.funcs.now l.self.now.calls + parts_of l.stmt.now

abbrev pub invariant-after_all-loop-stmt : goal.invariant-after_all-loop-stmt
invariant-after_all-loop-stmt l = l.next + room l.self (drop l.stmt-index l.body)
    ≡ l.at + room l.self l.body
