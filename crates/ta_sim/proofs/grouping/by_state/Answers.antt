use Rattle.std.proofs.Common.{◌<◌, take}
use Rattle.fore_base.proofs.ListLemmas.{every_at, take_item}
use Rattle.ta_core.specs.declared.auto.Rule.{Rule}
use Rattle.ta_sim.proofs.Groups.{grouped_push}
use Rattle.ta_sim.proofs.grouping.by_state.Goals as goal

pub loop-rule-preserved : goal.loop-rule-preserved
loop-rule-preserved c =
    let r = c.rule-item.result in
    let t = take_item c.args.rules.now c.loop-rule.rule-index r c.loop-rule-test.true c.rule-item.is in
    let low = every_at (λ (x : Rule). x.state < c.args.states) c.args.rules.now c.loop-rule.rule-index r c.requires
    c.loop-rule-test.true c.rule-item.is in
    let made = rw c.in_ok-own.ensures at c.in_ok-add.ensures in
    rw (t, made)
    (grouped_push (λ (x : Rule). x.state) (take c.loop-rule.rule-index c.args.rules.now) c.args.states
    c.loop-rule.groups r low c.loop-rule.invariant)
