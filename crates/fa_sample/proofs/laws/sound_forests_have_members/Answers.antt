use Rattle.fa_sample.proofs.Sampled.{has_member}
use Rattle.fa_sample.proofs.laws.sound_forests_have_members.Goals as goal

pub returns : goal.returns
returns c = has_member
