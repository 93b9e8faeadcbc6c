-- proofs/laws/regroupings_keep_filled/Answers.antt
use Rattle.fa_core.proofs.laws.regroupings_keep_filled.Goals as goal
use Rattle.fa_core.proofs.FilledKept.{filled_kept}

pub returns : goal.returns
returns c = filled_kept
