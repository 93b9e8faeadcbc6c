use Rattle.fa_folding.proofs.FoldedMembers.{folds_into}
use Rattle.fa_folding.proofs.laws.folds_keep_forests.Goals as goal

pub returns : goal.returns
returns c = folds_into
