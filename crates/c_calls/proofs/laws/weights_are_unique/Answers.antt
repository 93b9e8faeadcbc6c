use Rattle.c_calls.proofs.Weighed.{one_weight}
use Rattle.c_calls.proofs.laws.weights_are_unique.Goals as goal

pub returns : goal.returns
returns c = one_weight
