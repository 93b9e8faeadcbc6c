use Rattle.fa_folding.proofs.FoldedSound.{folds_sound}
use Rattle.fa_folding.proofs.laws.folds_are_sound.Goals as goal

pub returns : goal.returns
returns c = folds_sound
