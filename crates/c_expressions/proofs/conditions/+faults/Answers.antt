use Rattle.std.proofs.Common.{◌+◌, drop, map, sym, ap, ◌∙◌}
use Rattle.c_typing.specs.Sites.{test_sites, and_sites}
use Rattle.c_typing.specs.Texts.{joined}
use Rattle.c_expressions.specs.Meeting.{met}
use Rattle.c_expressions.proofs.Stepping.{each_step, each_end}
use Rattle.c_expressions.proofs.conditions.«+faults».Goals as goal

pub tests_faults-loop-test-preserved : goal.tests_faults-loop-test-preserved
tests_faults-loop-test-preserved t c =
    let g = c.args.tables.now in
    let f = test_sites g c.args.scope.now in
    let i = c.loop-test.test-index in
    ap (λ e. met g e (joined (map f (drop (i + 1) c.args.tests.now)))) c.in_ok-test_faults.ensures
    ∙ sym (each_step g c.loop-test.found f c.args.tests.now i c.test-item.result c.loop-test-test.true c.test-item.is)
    ∙ c.loop-test.invariant

pub tests_faults-returns : goal.tests_faults-returns
tests_faults-returns t c =
    let g = c.args.tables.now in
    sym
    (each_end g c.loop-test.found (test_sites g c.args.scope.now) c.args.tests.now c.loop-test.test-index
    c.loop-test-test.false) ∙ c.loop-test.invariant

pub ands_faults-loop-and-preserved : goal.ands_faults-loop-and-preserved
ands_faults-loop-and-preserved t c =
    let g = c.args.tables.now in
    let f = and_sites g c.args.scope.now in
    let i = c.loop-and.and-index in
    ap (λ e. met g e (joined (map f (drop (i + 1) c.args.ands.now)))) c.in_ok-and_faults.ensures
    ∙ sym (each_step g c.loop-and.found f c.args.ands.now i c.and-item.result c.loop-and-test.true c.and-item.is)
    ∙ c.loop-and.invariant

pub ands_faults-returns : goal.ands_faults-returns
ands_faults-returns t c =
    let g = c.args.tables.now in
    sym
    (each_end g c.loop-and.found (and_sites g c.args.scope.now) c.args.ands.now c.loop-and.and-index
    c.loop-and-test.false) ∙ c.loop-and.invariant
