use Rattle.fa_back.proofs.ByMarks.{met_signed, signed_met}
use Rattle.fa_back.proofs.ForestLaws.{signs_within, inside_signs}
use Rattle.fa_back.proofs.laws.roots_follow_signatures.Goals as goal

pub returns-clause-same : goal.returns-clause-same
returns-clause-same c = λ bs vars ts ss p r. (met_signed bs vars ts ss p r, signed_met bs vars ts ss p r)

pub returns-clause-within : goal.returns-clause-within
returns-clause-within c = λ bs n ts ss p h. signs_within bs n ts ss p h

pub returns-clause-inside : goal.returns-clause-inside
returns-clause-inside c = λ face x autos ss inside s. inside_signs face x autos ss inside s
