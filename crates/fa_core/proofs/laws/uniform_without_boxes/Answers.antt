-- proofs/laws/uniform_without_boxes/Answers.antt
use Rattle.fa_core.proofs.laws.uniform_without_boxes.Goals as goal
use Rattle.fa_core.proofs.Uniform.{signed_alike, alike_signed}

pub returns : goal.returns
returns c = λ bs a b. (signed_alike bs a b, alike_signed bs a b)
