use Rattle.sym_transfer.proofs.Below.{targets_below}
use Rattle.sym_transfer.proofs.variables.with_known.Goals as goal

pub with_vars-requires-clause-targets : goal.with_vars-requires-clause-targets
with_vars-requires-clause-targets c =
    rw (c.in_ok-vars.ensures, c.forest.ensures)
    (targets_below c.args.forest.now.face c.args.forest.now.forest c.known.ensures.sound)
