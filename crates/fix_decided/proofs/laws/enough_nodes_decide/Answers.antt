use Rattle.fix_decided.proofs.BareNodes.{bare_nodes}
use Rattle.fix_decided.proofs.Counting.{no_heads}
use Rattle.fix_decided.proofs.Deciding.{decided}
use Rattle.fix_decided.proofs.laws.enough_nodes_decide.Goals as goal

pub returns-clause-bare : goal.returns-clause-bare
returns-clause-bare c = λ T g k nodes free explored. bare_nodes T g k nodes explored (λ l. no_heads g.heads l free)

pub returns-clause-decides : goal.returns-clause-decides
returns-clause-decides c = λ T g k budget found table free most explored.
    decided T table g free k budget found explored most
