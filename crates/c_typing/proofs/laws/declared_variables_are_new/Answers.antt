use Rattle.c_typing.proofs.OwnVariables.{own_different, own_new}
use Rattle.c_typing.proofs.laws.declared_variables_are_new.Goals as goal

pub returns-clause-different : goal.returns-clause-different
returns-clause-different c = own_different

pub returns-clause-new : goal.returns-clause-new
returns-clause-new c = own_new
