use Rattle.fore_base.proofs.ListLemmas.{every_at}
use Rattle.ta_core.specs.Auto.{IsRanked}
use Rattle.ta_core.specs.declared.auto.Rule.{Rule}
use Rattle.fa_sound.specs.Components.{component_at}
use Rattle.fa_unfold.specs.Slots.{rule_places}
use Rattle.fa_unfold.specs.Unfolding.{grown}
use Rattle.fa_unfold.proofs.lists.grow_each.Goals as goal

pub grow_root-requires-clause-ranked : goal.grow_root-requires-clause-ranked
grow_root-requires-clause-ranked c =
    let a = component_at c.args.forest.now.autos c.args.root in
    every_at
    (λ (z : Rule). IsRanked
    (grown c.args.boxes.now a c.args.own.now (rule_places c.args.own.now) c.args.port.now z))
    c.args.rules.now c.loop-rule.rule-index c.rule-item.result c.requires.ranked c.loop-rule-test.true c.rule-item.is
