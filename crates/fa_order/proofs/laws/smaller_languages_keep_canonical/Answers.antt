use Rattle.fa_order.proofs.Outlined.{smaller_canonical}
use Rattle.fa_order.proofs.laws.smaller_languages_keep_canonical.Goals as goal

pub returns : goal.returns
returns c = smaller_canonical
