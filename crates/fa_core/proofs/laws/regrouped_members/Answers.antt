use Rattle.fa_core.proofs.laws.regrouped_members.Goals as goal
use Rattle.fa_core.proofs.Regrouped.{members_regrouped}

pub returns : goal.returns
returns c = λ hs T F G s w h. members_regrouped hs T F G w s h
