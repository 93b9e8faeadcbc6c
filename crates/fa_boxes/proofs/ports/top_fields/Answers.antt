use Rattle.fore_base.proofs.ListLemmas.{in_at, take_item}
use Rattle.fa_boxes.proofs.AllParts.{top_added}
use Rattle.fa_boxes.proofs.ports.top_fields.Goals as goal

pub loop-rule-preserved : goal.loop-rule-preserved
loop-rule-preserved c =
    let o = c.rule-item.result in
    let i = in_at c.args.rules.now c.loop-rule.rule-index o c.loop-rule-test.true c.rule-item.is in
    let t = take_item c.args.rules.now c.loop-rule.rule-index o c.loop-rule-test.true c.rule-item.is in
    rw t (top_added c.args.boxes.now c.args.table.now c.args.root c.args.roots.now c.args.rules.now _ o c.loop-rule.all
    c.add_top.new.all i c.in_ok-add_top.ensures c.loop-rule.invariant)
