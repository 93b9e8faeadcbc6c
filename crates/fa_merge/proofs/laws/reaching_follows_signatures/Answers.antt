use Rattle.fa_merge.proofs.LeaksDecided.{same_reached}
use Rattle.fa_merge.proofs.laws.reaching_follows_signatures.Goals as goal

pub returns : goal.returns
returns c = λ bs vs ts us r same h. same_reached bs vs ts us r same h
