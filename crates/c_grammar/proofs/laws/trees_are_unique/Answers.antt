use Rattle.c_grammar.proofs.ItemForms.{one_unit}
use Rattle.c_grammar.proofs.laws.trees_are_unique.Goals as goal

pub returns : goal.returns
returns c = one_unit
