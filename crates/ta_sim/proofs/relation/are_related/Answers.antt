use Rattle.ta_sim.proofs.Related.{related_decides}
use Rattle.ta_sim.proofs.relation.are_related.Goals as goal

pub returns : goal.returns
returns c = related_decides c.args.rows.now c.args.left.now c.args.right.now c.each_related.result
    c.each_related.ensures
