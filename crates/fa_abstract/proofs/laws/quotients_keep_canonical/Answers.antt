use Rattle.fa_abstract.proofs.Canonical.{quotient_canonical}
use Rattle.fa_abstract.proofs.laws.quotients_keep_canonical.Goals as goal

pub returns : goal.returns
returns c = λ face F G k can ranked trim high h. quotient_canonical face F can ranked trim k G high h
