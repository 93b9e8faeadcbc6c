use Rattle.c_grammar.specs.Items.{unit}
use Rattle.c_grammar.proofs.Exclusion.{syntax_or_whole, deep_or_whole, syntax_or_deep}
use Rattle.c_grammar.proofs.laws.answers_exclude_each_other.Goals as goal

pub returns-clause-hopeless : goal.returns-clause-hopeless
returns-clause-hopeless c = λ n end ts at u s w. syntax_or_whole unit n end ts at u s w

pub returns-clause-deep : goal.returns-clause-deep
returns-clause-deep c = λ n ts at u d w. deep_or_whole unit n ts at u d w

pub returns-clause-apart : goal.returns-clause-apart
returns-clause-apart c = λ n end ts here there s d. syntax_or_deep unit n end ts here there s d
