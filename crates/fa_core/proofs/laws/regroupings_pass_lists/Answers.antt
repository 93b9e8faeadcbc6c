use Rattle.fa_core.proofs.laws.regroupings_pass_lists.Goals as goal
use Rattle.fa_core.proofs.Composed.{split_on}

pub returns : goal.returns
returns c = λ T F Gs Hs a b. split_on T F Gs Hs a b
