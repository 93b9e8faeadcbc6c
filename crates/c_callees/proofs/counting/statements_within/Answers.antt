use Rattle.std.proofs.Common.{arith}
use Rattle.c_typing.specs.BodySites.{block_places}
use Rattle.c_callees.proofs.CountingLemmas.{all_within}
use Rattle.c_callees.proofs.counting.statements_within.Goals as goal

pub returns-in-None : goal.returns-in-None
returns-in-None c =
    let all = all_within 4294967295 _ (block_places c.args.block.now).within c.passed_body-count.ensures
    c.in-None.is in
    omega (arith, all)
