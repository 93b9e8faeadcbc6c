use Rattle.ta_core.proofs.Shifting.{united_union}
use Rattle.ta_core.proofs.laws.union_joins.Goals as goal

pub returns : goal.returns
returns c = united_union
