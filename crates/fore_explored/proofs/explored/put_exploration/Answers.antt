use Rattle.fore_explored.proofs.StateLemmas.{states_of}
use Rattle.fore_explored.proofs.explored.put_exploration.Goals as goal

pub put_nodes-requires : goal.put_nodes-requires
put_nodes-requires c = states_of c.args.table.now c.args.graph.now c.args.program.now c.args.mode
    c.requires.lowered c.requires.shapes c.args.height c.args.nodes.now c.requires.explored
