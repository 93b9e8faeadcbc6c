use Rattle.std.proofs.Common.{◌≡◌, map, drop}
use Rattle.c_typing.specs.Callees.{test_callees, and_callees}
use Rattle.c_typing.specs.Texts.{joined}
use Rattle.c_callees.specs.inner.Calling.{called}
use Rattle.c_callees.proofs.operands.«+cond».Given as goal

abbrev pub invariant-tests_calls-loop-test : goal.invariant-tests_calls-loop-test
invariant-tests_calls-loop-test l = called l.names l.found (joined (map test_callees (drop l.test-index l.tests)))
    ≡ called l.names l.initial.found (joined (map test_callees l.tests))

abbrev pub invariant-ands_calls-loop-and : goal.invariant-ands_calls-loop-and
invariant-ands_calls-loop-and l = called l.names l.found (joined (map and_callees (drop l.and-index l.ands)))
    ≡ called l.names l.initial.found (joined (map and_callees l.ands))
