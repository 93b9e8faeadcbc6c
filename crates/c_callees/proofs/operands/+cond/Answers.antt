use Rattle.std.proofs.Common.{◌+◌, drop, map, sym, ap, ◌∙◌}
use Rattle.c_typing.specs.Callees.{test_callees, and_callees}
use Rattle.c_typing.specs.Texts.{joined}
use Rattle.c_callees.specs.inner.Calling.{called}
use Rattle.c_callees.proofs.CallingLemmas.{each_called, none_called}
use Rattle.c_callees.proofs.operands.«+cond».Goals as goal

pub tests_calls-loop-test-preserved : goal.tests_calls-loop-test-preserved
tests_calls-loop-test-preserved t c =
    let names = c.args.names.now in
    let i = c.loop-test.test-index in
    ap (λ ns. called names ns (joined (map test_callees (drop (i + 1) c.args.tests.now)))) c.in_ok-test_calls.ensures
    ∙ sym
    (each_called names test_callees c.args.tests.now i c.loop-test.found c.test-item.result c.loop-test-test.true
    c.test-item.is)
    ∙ c.loop-test.invariant

pub tests_calls-returns : goal.tests_calls-returns
tests_calls-returns t c =
    sym
    (none_called c.args.names.now test_callees c.args.tests.now c.loop-test.test-index c.loop-test.found
    c.loop-test-test.false)
    ∙ c.loop-test.invariant

pub ands_calls-loop-and-preserved : goal.ands_calls-loop-and-preserved
ands_calls-loop-and-preserved t c =
    let names = c.args.names.now in
    let i = c.loop-and.and-index in
    ap (λ ns. called names ns (joined (map and_callees (drop (i + 1) c.args.ands.now)))) c.in_ok-and_calls.ensures
    ∙ sym
    (each_called names and_callees c.args.ands.now i c.loop-and.found c.and-item.result c.loop-and-test.true
    c.and-item.is)
    ∙ c.loop-and.invariant

pub ands_calls-returns : goal.ands_calls-returns
ands_calls-returns t c =
    sym
    (none_called c.args.names.now and_callees c.args.ands.now c.loop-and.and-index c.loop-and.found
    c.loop-and-test.false)
    ∙ c.loop-and.invariant
