use Rattle.fa_join.proofs.OneForest.{one_forest}
use Rattle.fa_join.proofs.laws.joinable_forests_have_one.Goals as goal

pub returns : goal.returns
returns c = one_forest
