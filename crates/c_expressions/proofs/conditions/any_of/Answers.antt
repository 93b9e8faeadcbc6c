use Rattle.c_expressions.proofs.ConditionLemmas.{any_of_some}
use Rattle.c_expressions.proofs.conditions.any_of.Goals as goal

pub returns : goal.returns
returns c = any_of_some c.is_empty.result c.args.conds c.is_empty.ensures c.if-is_empty.false
