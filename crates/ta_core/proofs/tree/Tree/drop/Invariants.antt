use Rattle.ta_core.specs.inner.LettingGo.{toll}
use Rattle.ta_core.proofs.tree.Tree.drop.Given as goal

abbrev pub decreases-trees : goal.decreases-trees
decreases-trees l = toll l.rest.items
