use Rattle.c_prefixes.proofs.LoopFree.{same_number}
use Rattle.c_prefixes.proofs.laws.graphs_have_one_number.Goals as goal

pub returns : goal.returns
returns c = λ p mode g h n b low other none e. same_number p mode g h n b low other none e
