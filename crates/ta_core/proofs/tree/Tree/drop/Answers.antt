use Rattle.ta_core.proofs.LettingGo.{toll_pop}
use Rattle.ta_core.proofs.tree.Tree.drop.Goals as goal

pub trees-smaller : goal.trees-smaller
trees-smaller c = toll_pop c.trees.rest.items c.pop.new.self.items c.let_go_down-rest.result.items c.pop.result
    c.in-Some.tree c.pop.ensures.items c.in-Some.is c.let_go_down-rest.ensures
