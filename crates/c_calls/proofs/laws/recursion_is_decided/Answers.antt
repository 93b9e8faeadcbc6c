use Rattle.c_calls.proofs.FewCalls.{test_none, none_test}
use Rattle.c_calls.proofs.laws.recursion_is_decided.Goals as goal

pub returns : goal.returns
returns c = λ calls. (test_none calls, none_test calls)
