use Rattle.fa_facts.proofs.laws.cells_have_their_fields.Goals as goal
use Rattle.fa_facts.proofs.FullFacts.{fields_full}

pub returns : goal.returns
returns c = λ t F d table filled of n. fields_full t table F filled d of n
