use Rattle.fore_base.specs.Lists.{Every}
use Rattle.fore_base.proofs.ListLemmas.{every_at}
use Rattle.ta_core.specs.Auto.{IsRanked}
use Rattle.ta_core.specs.declared.auto.Rule.{Rule}
use Rattle.fa_sound.specs.Components.{component_at}
use Rattle.fa_unfold.specs.Slots.{rule_places}
use Rattle.fa_unfold.specs.Unfolding.{grown}
use Rattle.fa_unfold.proofs.lists.grown_roots.Goals as goal

pub grow_each-requires-clause-ranked : goal.grow_each-requires-clause-ranked
grow_each-requires-clause-ranked c =
    let a = component_at c.args.forest.now.autos c.args.root in
    every_at
    (λ (w : Rule). Every
    (λ (z : Rule). IsRanked (grown c.args.boxes.now a w (rule_places w) c.args.port.now z)) c.args.rules.now)
    c.args.ends.now c.loop-own.own-index c.own-item.result c.requires.ranked c.loop-own-test.true c.own-item.is
