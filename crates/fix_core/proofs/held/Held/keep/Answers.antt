use Rattle.fix_core.proofs.Holding.{kept_as, pool_grows}
use Rattle.fix_core.proofs.held.Held.keep.Goals as goal

pub returns-clause-grows : goal.returns-clause-grows
returns-clause-grows c =
    pool_grows c.keep.result c.args.self.now c.keep.new.self c.args.forest.now.forest.autos c.keep.ensures.grows
    c.keep.ensures.err

pub returns-clause-kept : goal.returns-clause-kept
returns-clause-kept c =
    kept_as c.keep.result c.keep.new.self c.args.forest.now.forest c.keep.ensures.reads c.keep.ensures.within
