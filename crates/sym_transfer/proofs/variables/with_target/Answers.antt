use Rattle.std.proofs.Common.{length}
use Rattle.fa_core.specs.Filled.{IsRoot}
use Rattle.sym_transfer.proofs.Below.{targets_below}
use Rattle.sym_transfer.proofs.Places.{every_set}
use Rattle.sym_transfer.proofs.variables.with_target.Goals as goal

pub with_vars-requires-clause-targets : goal.with_vars-requires-clause-targets
with_vars-requires-clause-targets c =
    let F = c.args.forest.now.forest in
    rw (c.set_within.ensures, c.in_ok-vars.ensures, c.forest.ensures)
    (every_set (IsRoot (length F.autos)) F.vars c.args.to c.args.target
    (targets_below c.args.forest.now.face F c.known.ensures.sound) c.requires.root)
