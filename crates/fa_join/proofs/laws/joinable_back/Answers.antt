use Rattle.fa_join.proofs.Symmetric.{joinable_turned}
use Rattle.fa_join.proofs.laws.joinable_back.Goals as goal

pub returns : goal.returns
returns c = joinable_turned
