use Rattle.fa_split.proofs.LinksGive.{faces_give, plain_gives}
use Rattle.fa_split.proofs.laws.edges_give.Goals as goal

pub returns-clause-faces : goal.returns-clause-faces
returns-clause-faces c = λ bs autos giving. faces_give bs giving autos

pub returns-clause-plain : goal.returns-clause-plain
returns-clause-plain c = λ bs autos plain. plain_gives bs autos plain
