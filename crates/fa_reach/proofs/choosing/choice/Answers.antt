use Rattle.fa_reach.proofs.Numbers.{picked_fit, picked_long}
use Rattle.fa_reach.proofs.choosing.choice.Goals as goal

pub returns-clause-long : goal.returns-clause-long
returns-clause-long c = rw (c.in_ok-parts.ensures)
    (picked_long _ c.args.all.now c.args.number c.requires)

pub returns-clause-fit : goal.returns-clause-fit
returns-clause-fit c = rw (c.in_ok-parts.ensures) (picked_fit c.args.all.now c.args.number c.requires)
