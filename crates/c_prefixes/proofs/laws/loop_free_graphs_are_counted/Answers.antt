use Rattle.c_prefixes.proofs.LoopFree.{loop_free_number}
use Rattle.c_prefixes.proofs.laws.loop_free_graphs_are_counted.Goals as goal

pub returns : goal.returns
returns c = λ p mode g low none. loop_free_number p mode g low none
