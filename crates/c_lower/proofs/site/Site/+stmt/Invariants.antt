use Rattle.std.proofs.Common.{◌≡◌, ◌+◌, ◌++◌, drop}
use Rattle.c_lower.specs.inner.Depths.{parts_of, parts_in, parts_ahead}
use Rattle.c_lower.specs.inner.Sites.{room, edges_at}
use Rattle.c_lower.proofs.site.Site.+stmt.Given as goal

abbrev pub decreases-add_all : goal.decreases-add_all
decreases-add_all l = parts_ahead l.self.now.funcs.now l.self.now.calls + parts_in l.body.now

abbrev pub decreases-add_stmt : goal.decreases-add_stmt
decreases-add_stmt l = parts_ahead l.self.now.funcs.now l.self.now.calls + parts_of l.stmt.now

abbrev pub invariant-add_all-loop-at : goal.invariant-add_all-loop-at
invariant-add_all-loop-at l = record {
  left : l.from + room l.self (drop l.at l.body) ≡ l.end;
  edges : l.edges ++ edges_at l.self (drop l.at l.body) l.around l.from l.span.then ≡ l.initial.edges
      ++ edges_at l.self l.body l.around l.span.from l.span.then;
}
