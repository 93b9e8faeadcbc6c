use Rattle.fa_sound.proofs.ComponentLemmas.{item_component}
use Rattle.fa_sound.proofs.components.component.Goals as goal

pub returns : goal.returns
returns c = item_component c.args.forest.now.autos c.args.root c.at.result.now c.at.ensures
