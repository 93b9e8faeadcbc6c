use Rattle.fa_facts.proofs.laws.named_cells_are_there.Goals as goal
use Rattle.fa_facts.proofs.NamedCells.{facts_named}

pub returns : goal.returns
returns c = λ d. facts_named d
