use Rattle.fa_split.proofs.ChosenTrees.{chosen_ranked}
use Rattle.fa_split.proofs.topping.choose.Goals as goal

pub alone-requires : goal.alone-requires
alone-requires c = chosen_ranked c.args.auto.now c.args.rule.now c.known.ensures c.requires
