use Rattle.c_cfg.specs.GraphRuns.{out_of}
use Rattle.c_cfg.proofs.Fanning.{fans, goes_by}
use Rattle.c_cfg.proofs.laws.edges_make_runs.Goals as goal

pub returns : goal.returns
returns c low k e s i = goes_by c.args.graph.now.shapes.structs s (out_of c.args.graph.now.edges k) e
    (fans c.args.program.now c.args.mode c.args.graph.now low k) i
