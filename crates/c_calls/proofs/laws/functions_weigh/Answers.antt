use Rattle.c_calls.proofs.FewCalls.{each_weighs}
use Rattle.c_calls.proofs.laws.functions_weigh.Goals as goal

pub returns : goal.returns
returns c = λ statements calls free f. each_weighs calls statements free f
