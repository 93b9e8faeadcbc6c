use Rattle.fa_folding.proofs.FoldedMembers.{members_kept}
use Rattle.fa_folding.proofs.laws.folds_keep_members.Goals as goal

pub returns : goal.returns
returns c = members_kept
