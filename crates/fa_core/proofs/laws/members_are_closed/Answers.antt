use Rattle.fa_core.proofs.laws.members_are_closed.Goals as goal
use Rattle.fa_core.proofs.Renamed.{alike_member}

pub returns : goal.returns
returns c = λ hs T F s t h a p. alike_member hs T F s t h a p
