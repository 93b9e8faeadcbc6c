use Rattle.fa_merge.proofs.laws.all_leak_or_none.Goals as goal
use Rattle.fa_merge.proofs.LeaksDecided.{leak_decided}

pub returns : goal.returns
returns c = λ face F sound. leak_decided face F sound
