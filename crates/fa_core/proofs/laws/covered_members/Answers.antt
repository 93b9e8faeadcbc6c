use Rattle.fa_core.proofs.laws.covered_members.Goals as goal
use Rattle.fa_core.proofs.Composed.{covered_members}

pub returns : goal.returns
returns c = λ hs T F G s w h. covered_members hs T F G w s h
