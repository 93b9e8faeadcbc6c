use Rattle.fa_merge.proofs.laws.reaching_is_decided.Goals as goal
use Rattle.fa_merge.proofs.LeaksDecided.{roots_decided}

pub returns : goal.returns
returns c = λ face F sound. roots_decided face F sound
