use Rattle.sym_core.proofs.Refining.{regroups_refine, refines_on}
use Rattle.sym_core.proofs.laws.refining_goes_on.Goals as goal

pub returns-clause-regrouped : goal.returns-clause-regrouped
returns-clause-regrouped c = λ face T i F G g. regroups_refine face T i F G g

pub returns-clause-on : goal.returns-clause-on
returns-clause-on c = λ face T i F G H a b. refines_on face T i F G H a b
