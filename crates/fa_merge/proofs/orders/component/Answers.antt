use Rattle.fa_sound.proofs.ComponentLemmas.{item_component}
use Rattle.fa_merge.proofs.orders.component.Goals as goal

pub returns : goal.returns
returns c = item_component c.args.autos.now c.args.root c.at.result.now c.at.ensures
