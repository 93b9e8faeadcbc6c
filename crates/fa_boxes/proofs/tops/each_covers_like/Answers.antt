use Rattle.fore_base.proofs.ListLemmas.{in_at}
use Rattle.fa_boxes.proofs.tops.each_covers_like.Goals as goal

pub returns-then-not-branch : goal.returns-then-not-branch
returns-then-not-branch c =
    let e = rw c.if-not-branch.true at c.in_ok-covers_like_at_top.ensures in
    let i = in_at c.args.rules.now c.loop-rule.rule-index c.rule-item.result c.loop-rule-test.true c.rule-item.is in
    (c.rule-item.result, (i, e.0), e.1)
