use Rattle.fa_unfold.proofs.Opening.{opens_facts, opens_keeps}
use Rattle.fa_unfold.proofs.UnfoldedMembers.{opens_regrouped}
use Rattle.fa_unfold.proofs.laws.opening_keeps_facts.Goals as goal

pub returns-clause-facts : goal.returns-clause-facts
returns-clause-facts c = opens_facts

pub returns-clause-items : goal.returns-clause-items
returns-clause-items c = opens_keeps

pub returns-clause-regrouped : goal.returns-clause-regrouped
returns-clause-regrouped c = opens_regrouped
