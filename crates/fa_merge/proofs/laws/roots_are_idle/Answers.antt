use Rattle.fa_merge.proofs.DroppedSound.{can_idle, plain_idle}
use Rattle.fa_merge.proofs.laws.roots_are_idle.Goals as goal

pub returns-clause-plain : goal.returns-clause-plain
returns-clause-plain c = λ bs F r plain. plain_idle bs F r plain

pub returns-clause-dropped : goal.returns-clause-dropped
returns-clause-dropped c = λ face F r sound ranked can. can_idle face F r sound ranked can
