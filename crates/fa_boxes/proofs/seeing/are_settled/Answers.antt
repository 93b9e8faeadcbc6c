use Rattle.fore_base.proofs.ListLemmas.{in_at}
use Rattle.fa_boxes.proofs.seeing.are_settled.Goals as goal

pub returns-then-not-branch : goal.returns-then-not-branch
returns-then-not-branch c =
    let e = rw c.if-not-branch.true at c.in_ok-is_settled.ensures in
    let i = in_at c.args.rules.now c.loop-rule.rule-index c.rule-item.result c.loop-rule-test.true c.rule-item.is in
    (c.rule-item.result, i, e)
