use Rattle.fix_decided.proofs.Counting.{at_most_prefixes, no_heads}
use Rattle.fix_decided.proofs.laws.nodes_are_at_most_prefixes.Goals as goal

pub returns : goal.returns
returns c = λ T g k b nodes table free explored bare most.
    at_most_prefixes T table g k nodes explored (λ l. no_heads g.heads l free) bare b most
