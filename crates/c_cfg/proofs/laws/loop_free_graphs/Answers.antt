use Rattle.c_cfg.proofs.FreeOfLoops.{free_graph}
use Rattle.c_cfg.proofs.laws.loop_free_graphs.Goals as goal

pub returns : goal.returns
returns c = free_graph c.args.program.now c.args.mode c.args.graph.now
