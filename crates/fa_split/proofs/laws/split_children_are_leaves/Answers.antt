use Rattle.fa_split.proofs.FixedChildren.{split_fixed}
use Rattle.fa_split.proofs.laws.split_children_are_leaves.Goals as goal

pub returns : goal.returns
returns c = λ T face F r p G ranked can sound of. split_fixed face F r p ranked can sound T G of
