use Rattle.fa_folding.proofs.FoldedForests.{folds_filled}
use Rattle.fa_folding.proofs.laws.folded_trees_are_filled.Goals as goal

pub returns : goal.returns
returns c = folds_filled
