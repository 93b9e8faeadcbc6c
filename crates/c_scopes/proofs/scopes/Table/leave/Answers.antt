use Rattle.c_scopes.proofs.ScopeLemmas.{left_kept}
use Rattle.c_scopes.proofs.scopes.Table.leave.Goals as goal

pub returns-in-Some-clause-kept : goal.returns-in-Some-clause-kept
returns-in-Some-clause-kept c =
    left_kept c.args.self.now c.pop.new.self c.in-Some.block c.unbind.new.meant c.requires c.in-Some.ensures
    c.unbind.ensures
