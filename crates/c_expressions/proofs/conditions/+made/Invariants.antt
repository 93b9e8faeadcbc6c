use Rattle.std.proofs.Common.{◌≡◌, map, take}
use Rattle.c_typing.specs.Programs.{test_of, and_of}
use Rattle.c_expressions.proofs.conditions.«+made».Given as goal

abbrev pub invariant-tests_of-loop-test : goal.invariant-tests_of-loop-test
invariant-tests_of-loop-test l = l.made ≡ map (test_of l.tables l.scope) (take l.test-index l.tests)

abbrev pub invariant-ands_of-loop-and : goal.invariant-ands_of-loop-and
invariant-ands_of-loop-and l = l.made ≡ map (and_of l.tables l.scope) (take l.and-index l.ands)
