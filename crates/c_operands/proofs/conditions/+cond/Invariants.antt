use Rattle.std.proofs.Common.{◌+◌, ◌*◌, ◌<◌, length}
use Rattle.c_grammar.specs.words.Sets.{begins_nested, test_goes_on, and_goes_on, cond_goes_on, no_sign}
use Rattle.c_grammar.specs.words.Shapes.{next_test, some_tests, next_and, some_ands}
use Rattle.c_grammar.proofs.Conditions.{ands, ors}
use Rattle.c_grammar.proofs.Lists.{Leads}
use Rattle.c_operands.proofs.conditions.«+cond».Given as goal

abbrev pub decreases-cond : goal.decreases-cond
decreases-cond l = 16 * l.bounds.now.room + 9

abbrev pub decreases-all_ands : goal.decreases-all_ands
decreases-all_ands l = 16 * l.bounds.now.room + 8

abbrev pub decreases-another_and : goal.decreases-another_and
decreases-another_and l = 16 * l.bounds.now.room + 7

abbrev pub decreases-all_tests : goal.decreases-all_tests
decreases-all_tests l = 16 * l.bounds.now.room + 6

abbrev pub decreases-another_test : goal.decreases-another_test
decreases-another_test l = 16 * l.bounds.now.room + 5

abbrev pub decreases-test : goal.decreases-test
decreases-test l = 16 * l.bounds.now.room + 4

abbrev pub decreases-unary : goal.decreases-unary
decreases-unary l = 16 * l.bounds.now.room + 4

abbrev pub decreases-nested : goal.decreases-nested
decreases-nested l = 16 * l.bounds.now.room + 15

abbrev pub decreases-brackets : goal.decreases-brackets
decreases-brackets l = 16 * l.bounds.now.room + 14

abbrev pub invariant-all_ands-ands : goal.invariant-all_ands-ands
invariant-all_ands-ands l =
    record {
      shorter : length l.rest < length l.left;
      leads : Leads next_and.rule ors and_goes_on no_sign no_sign some_ands.rule cond_goes_on no_sign begins_nested
          l.bounds.room l.bounds.end l.left l.rest l.all;
    }

abbrev pub decreases-all_ands-ands : goal.decreases-all_ands-ands
decreases-all_ands-ands l = length l.rest

abbrev pub invariant-all_tests-tests : goal.invariant-all_tests-tests
invariant-all_tests-tests l =
    record {
      shorter : length l.rest < length l.left;
      leads : Leads next_test.rule ands test_goes_on no_sign no_sign some_tests.rule and_goes_on no_sign begins_nested
          l.bounds.room l.bounds.end l.left l.rest l.all;
    }

abbrev pub decreases-all_tests-tests : goal.decreases-all_tests-tests
decreases-all_tests-tests l = length l.rest
