use Rattle.c_grammar.specs.Items.{unit}
use Rattle.c_grammar.proofs.Exclusion.{one_syntax, one_deep}
use Rattle.c_grammar.proofs.laws.refusals_are_unique.Goals as goal

pub returns-clause-hopeless : goal.returns-clause-hopeless
returns-clause-hopeless c = λ n end ts here there p q. one_syntax unit n n end ts here there p q

pub returns-clause-deep : goal.returns-clause-deep
returns-clause-deep c = λ n ts here there p q. one_deep unit n ts here there p q
