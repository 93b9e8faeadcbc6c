use Rattle.fa_kept.proofs.Reading.{decides_covering}
use Rattle.fa_kept.proofs.covering.covers_kept.Goals as goal

pub returns-clause-exact : goal.returns-clause-exact
returns-clause-exact c = λ F G f g.
    decides_covering c.args.pool.now c.args.wide.now c.args.narrow.now F G f g c.in_ok-asked.asked.covers
    c.in_ok-asked.ensures.covers

pub returns-in_err-remember-clause-agrees : goal.returns-in_err-remember-clause-agrees
returns-in_err-remember-clause-agrees c =
    c.remember.ensures c.args.pool.now c.requires.agrees (rw c.as_slice.ensures c.in_ok-asked.ensures.found)

pub returns-clause-agrees : goal.returns-clause-agrees
returns-clause-agrees c =
    c.remember.ensures c.args.pool.now c.requires.agrees (rw c.as_slice.ensures c.in_ok-asked.ensures.found)
