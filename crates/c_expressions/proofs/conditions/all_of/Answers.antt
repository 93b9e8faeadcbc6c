use Rattle.c_expressions.proofs.ConditionLemmas.{all_of_some}
use Rattle.c_expressions.proofs.conditions.all_of.Goals as goal

pub returns : goal.returns
returns c = all_of_some c.is_empty.result c.args.conds c.is_empty.ensures c.if-is_empty.false
