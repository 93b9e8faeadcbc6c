use Rattle.fa_sample.proofs.Sampled.{has_member}
use Rattle.fa_merge.proofs.Members.{not_both}
use Rattle.fa_merge.proofs.laws.sound_forests_have_members.Goals as goal

pub returns-clause-members : goal.returns-clause-members
returns-clause-members c = λ face F sound ranked T t insides. has_member face T F t insides sound ranked

pub returns-clause-one : goal.returns-clause-one
returns-clause-one c = λ face T F t insides sound ranked. not_both face F sound ranked T t insides
