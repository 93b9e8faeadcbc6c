use Rattle.fa_core.proofs.laws.split_members.Goals as goal
use Rattle.fa_core.proofs.Regrouped.{members_split}

pub returns : goal.returns
returns c = λ hs T F Gs s w h. members_split hs T F Gs w s h
