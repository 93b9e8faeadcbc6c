use Rattle.fore_explored.proofs.NodeLemmas.{node_more}
use Rattle.fix_core.proofs.Lists.{at_within}
use Rattle.fore_explored.proofs.explored.put_nodes.Goals as goal

pub loop-number-preserved : goal.loop-number-preserved
loop-number-preserved c =
    let n = at_within c.args.nodes.now c.loop-number.number (rw c.len-number-end.ensures at c.loop-number-test.true) in
    node_more c.args.table.now c.args.program.now c.args.edges.now c.args.nodes.now c.loop-number.number n.0
    c.loop-number.text c.put_node.new.text _ n.1 (c.in_ok-put_node.ensures n.0 n.1) c.loop-number.invariant
