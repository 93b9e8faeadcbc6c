use Rattle.sym_core.proofs.Refining.{refined_members, keeps_refined, bads_refined}
use Rattle.sym_core.proofs.laws.refined_cases_are_cases.Goals as goal

pub returns-clause-members : goal.returns-clause-members
returns-clause-members c = λ face T i F G a s h. refined_members face T i F G a s h

pub returns-clause-keeps : goal.returns-clause-keeps
returns-clause-keeps c = λ face T e F G M a k. keeps_refined face T e F G M a k

pub returns-clause-bads : goal.returns-clause-bads
returns-clause-bads c = λ face T e F G b a k. bads_refined face T e F G b a k
