use Rattle.std.proofs.Common.{◌≡◌, map, drop}
use Rattle.c_typing.specs.Sites.{test_sites, and_sites}
use Rattle.c_typing.specs.Texts.{joined}
use Rattle.c_expressions.specs.Meeting.{met}
use Rattle.c_expressions.proofs.conditions.«+faults».Given as goal

abbrev pub invariant-tests_faults-loop-test : goal.invariant-tests_faults-loop-test
invariant-tests_faults-loop-test l =
    met l.tables l.found (joined (map (test_sites l.tables l.scope) (drop l.test-index l.tests)))
    ≡ met l.tables l.initial.found (joined (map (test_sites l.tables l.scope) l.tests))

abbrev pub invariant-ands_faults-loop-and : goal.invariant-ands_faults-loop-and
invariant-ands_faults-loop-and l =
    met l.tables l.found (joined (map (and_sites l.tables l.scope) (drop l.and-index l.ands)))
    ≡ met l.tables l.initial.found (joined (map (and_sites l.tables l.scope) l.ands))
