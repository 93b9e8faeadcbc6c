use Rattle.fore_base.proofs.ListLemmas.{in_at}
use Rattle.ta_core.proofs.growing.least_rule.Goals as goal

pub returns-then-is_least : goal.returns-then-is_least
returns-then-is_least c = (
  in_at c.args.rules.now c.loop-rule.rule-index c.rule-item.result c.loop-rule-test.true c.rule-item.is,
  c.is_least.ensures.0 c.if-is_least.true,
)
