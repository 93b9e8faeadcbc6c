use Rattle.fa_split.proofs.SplitLeaves.{leaf_dressed}
use Rattle.fa_split.proofs.laws.leaves_narrow.Goals as goal

pub returns : goal.returns
returns c = λ T F r p y ranked can may. leaf_dressed F r p ranked can y may T
