use Rattle.fa_core.proofs.TablesGive.{tables_give, tables_rise}
use Rattle.fa_core.proofs.laws.tables_give.Goals as goal

pub returns-clause-gives : goal.returns-clause-gives
returns-clause-gives c = tables_give

pub returns-clause-rises : goal.returns-clause-rises
returns-clause-rises c = tables_rise
