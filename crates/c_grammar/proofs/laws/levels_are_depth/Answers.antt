use Rattle.c_grammar.proofs.DepthRules.{unit_to, unit_back}
use Rattle.c_grammar.proofs.laws.levels_are_depth.Goals as goal

pub returns : goal.returns
returns c = λ n ts u. (unit_to n ts u, unit_back n ts u)
