use Rattle.std.proofs.Common.{◌≡◌, ◌≤◌, ◌+◌, drop, length}
use Rattle.c_lower.specs.inner.Depths.{parts_of, parts_in}
use Rattle.c_lower.specs.inner.Sites.{inside_each}
use Rattle.c_lower.proofs.site.Site.+close.Given as goal

abbrev pub decreases-close_all : goal.decreases-close_all
decreases-close_all l = parts_in l.stmts.now

abbrev pub decreases-close_stmt : goal.decreases-close_stmt
decreases-close_stmt l = parts_of l.stmt.now

abbrev pub invariant-close_all-loop-at : goal.invariant-close_all-loop-at
invariant-close_all-loop-at l = record {
  within : l.at ≤ length l.stmts;
  around : l.around ≡ inside_each l.self l.initial.around (drop l.at l.stmts);
}
