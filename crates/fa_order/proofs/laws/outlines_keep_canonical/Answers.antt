use Rattle.fa_order.proofs.Outlined.{outlined_canonical}
use Rattle.fa_order.proofs.laws.outlines_keep_canonical.Goals as goal

pub returns : goal.returns
returns c = outlined_canonical
