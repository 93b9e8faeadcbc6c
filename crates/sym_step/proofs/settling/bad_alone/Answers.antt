use Rattle.sym_step.proofs.SettledForests.{settled_bad}
use Rattle.sym_step.proofs.settling.bad_alone.Goals as goal

pub returns-clause-settles : goal.returns-clause-settles
returns-clause-settles c =
    let s = c.args.forest.now in
    rw (c.new.ensures, c.in_ok-push.ensures.ok, c.new-faults.ensures, c.in_ok-at.ensures)
    (settled_bad s c.args._edge.now c.args.fault c.requires.met)
