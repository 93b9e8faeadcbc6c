use Rattle.fa_unfold.proofs.UnfoldedMembers.{members_into, members_from}
use Rattle.fa_unfold.proofs.laws.unfolding_keeps_members.Goals as goal

pub returns-clause-whole : goal.returns-clause-whole
returns-clause-whole c = λ hs T F root slot Gs s u h. members_into hs T F root slot Gs u s h

pub returns-clause-each : goal.returns-clause-each
returns-clause-each c = λ hs T F G root slot s u h. members_from hs T F root slot G u s h
