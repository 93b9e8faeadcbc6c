use Rattle.fa_reach.proofs.Signed.{parted_long, parted_fit}
use Rattle.fa_reach.proofs.parting.fit_parts.Goals as goal

pub returns-clause-long : goal.returns-clause-long
returns-clause-long c = parted_long 0 c.args.lists.now c.in_ok-all.all c.in_ok-all.ensures

pub returns-clause-fit : goal.returns-clause-fit
returns-clause-fit c =
    parted_fit c.args.lists.now c.in_ok-all.all c.requires.within c.requires.full c.in_ok-all.ensures
