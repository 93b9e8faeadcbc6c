use Rattle.fore_explored.proofs.NodeLemmas.{box_more}
use Rattle.fix_core.proofs.Lists.{at_within}
use Rattle.fore_explored.proofs.explored.put_boxes.Goals as goal

pub loop-number-preserved : goal.loop-number-preserved
loop-number-preserved c =
    let def = at_within c.args.table.now.defs c.loop-number.number
    (rw c.len-number-end.ensures at c.loop-number-test.true) in
    box_more c.args.table.now c.loop-number.number def.0 c.loop-number.text c.put_box.new.text _ def.1
    (c.in_ok-put_box.ensures def.0 def.1) c.loop-number.invariant
