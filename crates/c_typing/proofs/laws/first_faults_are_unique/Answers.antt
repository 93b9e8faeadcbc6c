use Rattle.c_typing.proofs.TypingLaws.{one_first_fault, breaks_or_not}
use Rattle.c_typing.proofs.laws.first_faults_are_unique.Goals as goal

pub returns-clause-unique : goal.returns-clause-unique
returns-clause-unique c = one_first_fault

pub returns-clause-there : goal.returns-clause-there
returns-clause-there c = breaks_or_not
