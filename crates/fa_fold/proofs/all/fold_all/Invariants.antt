use Rattle.fa_fold.specs.TopFields.{all_top_fields}
use Rattle.fa_fold.proofs.AllFolds.{IsFoldedSoFar}
use Rattle.fa_fold.proofs.all.fold_all.Given as goal

abbrev pub invariant-folds : goal.invariant-folds
invariant-folds l = IsFoldedSoFar l.table l.forest l.folded l.steps

abbrev pub decreases-folds : goal.decreases-folds
decreases-folds l = all_top_fields l.folded.forest.autos
