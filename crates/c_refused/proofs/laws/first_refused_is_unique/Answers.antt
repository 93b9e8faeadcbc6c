use Rattle.c_refused.proofs.Refusals.{first_is_one, none_or_first}
use Rattle.c_refused.proofs.laws.first_refused_is_unique.Goals as goal

pub returns-clause-unique : goal.returns-clause-unique
returns-clause-unique c = first_is_one

pub returns-clause-apart : goal.returns-clause-apart
returns-clause-apart c = none_or_first
