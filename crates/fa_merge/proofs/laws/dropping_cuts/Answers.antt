use Rattle.fa_merge.proofs.Dropping.{cut_forest}
use Rattle.fa_merge.proofs.laws.dropping_cuts.Goals as goal

pub returns : goal.returns
returns c = λ T bs F r n can flat one. cut_forest T bs F r can n one flat
