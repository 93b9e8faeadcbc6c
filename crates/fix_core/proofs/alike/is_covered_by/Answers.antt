use Rattle.fix_core.proofs.Reading.{first_covers}
use Rattle.fix_core.proofs.alike.is_covered_by.Goals as goal

pub returns-clause-exact : goal.returns-clause-exact
returns-clause-exact g c =
    first_covers c.args.pool.now c.args.alike.now c.args.forest.now c.in_ok-first.first c.is_some.result
    c.requires.alike c.requires.forest c.in_ok-first.ensures.first c.is_some.ensures
