use Rattle.fore_base.proofs.ListLemmas.{in_at}
use Rattle.fa_order.proofs.showing.rule_of.Goals as goal

pub returns-then-is_of : goal.returns-then-is_of
returns-then-is_of c = (
  in_at c.args.rules.now c.loop-rule.rule-index c.rule-item.result c.loop-rule-test.true c.rule-item.is,
  c.is_of.ensures.0 c.if-is_of.true,
)
