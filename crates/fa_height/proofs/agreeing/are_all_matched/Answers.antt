use Rattle.fore_base.proofs.ListLemmas.{drop_item}
use Rattle.fa_height.proofs.agreeing.are_all_matched.Goals as goal

pub loop-rule-preserved : goal.loop-rule-preserved
loop-rule-preserved c =
    let d = drop_item c.args.rules.now c.loop-rule.rule-index c.rule-item.result c.loop-rule-test.true c.rule-item.is in
    let v = rw d at c.loop-rule.invariant in
    ((λ k. v.0 (c.has_match.ensures.0 c.if-not-has_match.false, k)), (λ k. (v.1 k).1))
