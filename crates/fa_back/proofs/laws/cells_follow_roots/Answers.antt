use Rattle.fa_back.proofs.ForestLaws.{root_cells, roots_cells, cell_root}
use Rattle.fa_back.proofs.laws.cells_follow_roots.Goals as goal

pub returns-clause-tree : goal.returns-clause-tree
returns-clause-tree c = λ t F d h r x e met n i. root_cells t F d h r x e met n i

pub returns-clause-all : goal.returns-clause-all
returns-clause-all c = λ t F d h met n i. roots_cells t F d h met n i

pub returns-clause-root : goal.returns-clause-root
returns-clause-root c = λ t F d h differ r x e w. cell_root t F d h differ r x e w
