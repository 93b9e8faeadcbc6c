use Rattle.std.proofs.Common.{ap, ◌∙◌}
use Rattle.c_typing.specs.BodySites.{block_places}
use Rattle.c_callees.specs.declared.counting.Count.{Count}
use Rattle.c_callees.proofs.CountingLemmas.{beyond-all}
use Rattle.c_callees.proofs.counting.place_behind.Goals as goal

pub returns : goal.returns
returns c = ap (λ (d : Count). d.beyond) c.passed_body.ensures
    ∙ beyond-all c.args.most (block_places c.args.block.now).within
