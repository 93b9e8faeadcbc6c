use Rattle.std.proofs.Common.{◌+◌, drop, map, sym, ap, ◌∙◌}
use Rattle.c_typing.proofs.CalleeLayers.{callees-If-stmt}
use Rattle.c_typing.specs.Callees.{cond_callees, part_callees, stmt_callees, other_callees}
use Rattle.c_typing.specs.Texts.{joined}
use Rattle.c_callees.specs.inner.Calling.{called}
use Rattle.c_callees.proofs.CallingLemmas.{called-three, each_called, none_called}
use Rattle.c_callees.proofs.statements.«+stmt».Goals as goal

pub parts_calls-loop-part-preserved : goal.parts_calls-loop-part-preserved
parts_calls-loop-part-preserved t c =
    let names = c.args.names.now in
    let i = c.loop-part.part-index in
    ap (λ ns. called names ns (joined (map part_callees (drop (i + 1) c.args.parts.now)))) c.in_ok-part_calls.ensures
    ∙ sym
    (each_called names part_callees c.args.parts.now i c.loop-part.found c.part-item.result c.loop-part-test.true
    c.part-item.is)
    ∙ c.loop-part.invariant

pub parts_calls-returns : goal.parts_calls-returns
parts_calls-returns t c =
    sym
    (none_called c.args.names.now part_callees c.args.parts.now c.loop-part.part-index c.loop-part.found
    c.loop-part-test.false)
    ∙ c.loop-part.invariant

pub stmt_calls-returns-in_ok-other_calls-in-If : goal.stmt_calls-returns-in_ok-other_calls-in-If
stmt_calls-returns-in_ok-other_calls-in-If t c =
    let names = c.args.names.now in
    let found = c.args.found.now in
    called-three names found c.cond_calls.new.found c.stmt_calls.new.found c.other_calls.new.found
    (cond_callees c.in-If.cond) (stmt_callees c.in-If.then) (other_callees c.in-If.other)
    c.in_ok-cond_calls-in-If.ensures
    (c.in_ok-stmt_calls-in-If.ensures
    ∙ ap (λ s. called names c.cond_calls.new.found (stmt_callees s)) c.get-in-If.ensures)
    c.in_ok-other_calls-in-If.ensures
    ∙ ap (called names found)
    (sym (ap stmt_callees c.in-If.is ∙ callees-If-stmt c.in-If.at c.in-If.cond c.in-If.then c.in-If.other))
