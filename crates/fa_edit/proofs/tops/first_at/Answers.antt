use Rattle.fore_base.proofs.ListLemmas.{in_at}
use Rattle.fa_edit.proofs.tops.first_at.Goals as goal

pub returns-then-rule-state : goal.returns-then-rule-state
returns-then-rule-state c = (
  in_at c.args.rules.now c.loop-rule.rule-index c.rule-item.result c.loop-rule-test.true c.rule-item.is,
  c.if-rule-state.true,
)
