use Rattle.fa_folding.proofs.FoldWhole.{folds_made}
use Rattle.fa_folding.proofs.laws.folds_are_made.Goals as goal

pub returns : goal.returns
returns c = folds_made
