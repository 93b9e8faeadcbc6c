use Rattle.std.proofs.Common.{◌≡◌, ◌+◌, ◌++◌, drop}
use Rattle.c_lower.specs.inner.Depths.{parts_of, parts_in, parts_ahead}
use Rattle.c_lower.specs.inner.Sites.{all_heads}
use Rattle.c_lower.proofs.site.Site.+stmt_heads.Given as goal

abbrev pub decreases-add_heads : goal.decreases-add_heads
decreases-add_heads l = parts_ahead l.self.now.funcs.now l.self.now.calls + parts_in l.body.now

abbrev pub decreases-add_heads_of : goal.decreases-add_heads_of
decreases-add_heads_of l = parts_ahead l.self.now.funcs.now l.self.now.calls + parts_of l.stmt.now

abbrev pub invariant-add_heads-loop-stmt : goal.invariant-add_heads-loop-stmt
invariant-add_heads-loop-stmt l = l.heads ++ all_heads l.self (drop l.stmt-index l.body) l.from ≡ l.initial.heads
    ++ all_heads l.self l.body l.at
