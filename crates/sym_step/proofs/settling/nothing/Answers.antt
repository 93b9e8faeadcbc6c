use Rattle.sym_step.proofs.SettledForests.{settled_none}
use Rattle.sym_step.proofs.settling.nothing.Goals as goal

pub returns-clause-settles : goal.returns-clause-settles
returns-clause-settles c =
    rw (c.new.ensures, c.new-2.ensures) (settled_none c.args._forest.now c.args._edge.now c.requires.stays)
