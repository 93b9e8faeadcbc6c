use Rattle.fa_kept.proofs.within.is_within.Goals as goal

pub returns-in-Some-clause-right : goal.returns-in-Some-clause-right
returns-in-Some-clause-right c = c.in-Some.ensures c.args.pool.now c.requires.agrees c.requires.narrow
