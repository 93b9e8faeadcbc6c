use Rattle.ta_sim.proofs.Related.{related_differ}
use Rattle.ta_sim.proofs.relation.each_related.Goals as goal

pub returns-then-left-right : goal.returns-then-left-right
returns-then-left-right c = related_differ c.args.rows.now c.args.left.now c.args.right.now c.if-left-right.true
