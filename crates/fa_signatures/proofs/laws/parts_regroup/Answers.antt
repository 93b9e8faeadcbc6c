use Rattle.fa_signatures.proofs.CutLaws.{cut_regroups, cut_into, cut_union}
use Rattle.fa_signatures.proofs.laws.parts_regroup.Goals as goal

pub returns-clause-regroups : goal.returns-clause-regroups
returns-clause-regroups c = λ bs F G T h. cut_regroups bs F T G h

pub returns-clause-lost : goal.returns-clause-lost
returns-clause-lost c = λ bs F Gs T h. cut_into bs F T Gs h

pub returns-clause-members : goal.returns-clause-members
returns-clause-members c = λ bs F Gs h. cut_union bs F Gs h
