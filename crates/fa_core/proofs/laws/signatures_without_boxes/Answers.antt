-- proofs/laws/signatures_without_boxes/Answers.antt
use Rattle.fa_core.proofs.laws.signatures_without_boxes.Goals as goal
use Rattle.fa_core.proofs.PlainWays.{signature_is}

pub returns : goal.returns
returns c = λ bs rules q t p h. signature_is bs rules p h
