use Rattle.fa_kept.proofs.Growing.{agrees_when_grown}
use Rattle.fa_kept.proofs.laws.grown_agrees.Goals as goal

pub returns : goal.returns
returns c = agrees_when_grown
