use Rattle.fa_leaves.proofs.PutSigns.{put_signed}
use Rattle.fa_leaves.proofs.laws.other_leaves_keep_signatures.Goals as goal

pub returns : goal.returns
returns c = λ face f a apart ranked fits h. put_signed face f apart a ranked fits h
