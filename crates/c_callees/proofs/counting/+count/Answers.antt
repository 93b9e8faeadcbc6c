use Rattle.std.proofs.Common.{◌+◌, drop, map, sym, ap, ◌∙◌}
use Rattle.c_typing.specs.BodySites.{part_places, stmt_places, other_places}
use Rattle.c_typing.specs.Texts.{joined}
use Rattle.c_typing.proofs.PlaceLayers.{places-If-stmt}
use Rattle.c_callees.specs.inner.Counting.{all_passed}
use Rattle.c_callees.proofs.CountingLemmas.{parts_passed, parts_over, passed_two}
use Rattle.c_callees.proofs.counting.«+count».Goals as goal

pub pass_parts-loop-part-preserved : goal.pass_parts-loop-part-preserved
pass_parts-loop-part-preserved t c =
    let parts = c.args.parts.now in
    let i = c.loop-part.part-index in
    ap (λ k. all_passed k (joined (map part_places (drop (i + 1) parts)))) c.pass_part.ensures
    ∙ sym (parts_passed c.loop-part.count parts i c.part-item.result c.loop-part-test.true c.part-item.is)
    ∙ c.loop-part.invariant

pub pass_parts-returns : goal.pass_parts-returns
pass_parts-returns t c =
    sym (parts_over c.loop-part.count c.args.parts.now c.loop-part.part-index c.loop-part-test.false)
    ∙ c.loop-part.invariant

pub pass_stmt-returns-in-If : goal.pass_stmt-returns-in-If
pass_stmt-returns-in-If t c =
    passed_two c.args.count.now c.pass-in-If.new.count c.pass_stmt.new.count c.pass_other.new.count c.in-If.at _
    (other_places c.in-If.other)
    c.pass-in-If.ensures
    (c.pass_stmt.ensures ∙ ap (λ s. all_passed c.pass-in-If.new.count (stmt_places s)) c.get-in-If.ensures)
    c.pass_other.ensures
    ∙ ap (all_passed c.args.count.now)
    (sym (ap stmt_places c.in-If.is ∙ places-If-stmt c.in-If.at c.in-If.cond c.in-If.then c.in-If.other))
