use Rattle.std.proofs.Common.{take}
use Rattle.fore_base.proofs.ListLemmas.{take_item}
use Rattle.ta_sim.specs.inner.Using.{all_uses}
use Rattle.ta_sim.proofs.Uses.{all_uses_push}
use Rattle.ta_sim.proofs.grouping.by_child.Goals as goal

pub loop-rule-preserved : goal.loop-rule-preserved
loop-rule-preserved c =
    let r = c.rule-item.result in
    let done = take c.loop-rule.rule-index c.args.rules.now in
    let t = take_item c.args.rules.now c.loop-rule.rule-index r c.loop-rule-test.true c.rule-item.is in
    rw (t, all_uses_push done r) (c.in_ok-add_uses.ensures (all_uses done) c.loop-rule.invariant)
