use Rattle.std.proofs.Common.{sym, ◌∙◌, true≢false}
use Rattle.fa_join.proofs.differing.differing_below.Goals as goal

pub unreachable-requires : goal.unreachable-requires
unreachable-requires c = rw c.in-Nowhere.is at c.in_ok-children_apart.ensures

pub have_same_marks-requires-clause-left : goal.have_same_marks-requires-clause-left
have_same_marks-requires-clause-left c = let k = rw c.in-At.is at c.in_ok-children_apart.ensures in k.0

pub have_same_marks-requires-clause-right : goal.have_same_marks-requires-clause-right
have_same_marks-requires-clause-right c = let k = rw c.in-At.is at c.in_ok-children_apart.ensures in k.1

pub returns-then-have_same_marks : goal.returns-then-have_same_marks
returns-then-have_same_marks c =
    let k = rw c.in-At.is at c.in_ok-children_apart.ensures in
    k.2 (c.have_same_marks.ensures.0 c.if-have_same_marks.true)

pub returns-else-have_same_marks : goal.returns-else-have_same_marks
returns-else-have_same_marks c =
    let k = rw c.in-At.is at c.in_ok-children_apart.ensures in
    k.3 (λ m. true≢false (sym (c.have_same_marks.ensures.1 m) ∙ c.if-have_same_marks.false))

pub returns-in-More : goal.returns-in-More
returns-in-More c = rw c.in-More.is at c.in_ok-children_apart.ensures
