use Rattle.fa_leaves.proofs.PluggedTrees.{plugged_signature}
use Rattle.fa_leaves.proofs.laws.grafts_follow_signatures.Goals as goal

pub returns : goal.returns
returns c = λ bs r m n l k one never once none e f. plugged_signature bs r m n l k one never once none e f
