use Rattle.fa_core.proofs.laws.regroupings_compose.Goals as goal
use Rattle.fa_core.proofs.Composed.{regroups_same, regroups_on}

pub returns-clause-same : goal.returns-clause-same
returns-clause-same c = regroups_same

pub returns-clause-composed : goal.returns-clause-composed
returns-clause-composed c = λ T F G H a b. regroups_on T F G H a b
